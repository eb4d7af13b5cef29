use Rattle.netlist.proofs.ExamplesShown.{accumulates, restarted, reset_in_a_row, crosses, swaps}
use Rattle.netlist.proofs.examples.of_registers.Goals as goal

pub returns : goal.returns
returns c = record {
  sum = accumulates;
  reset = restarted;
  resets = reset_in_a_row;
  crossing = crosses;
  swapping = swaps;
}
