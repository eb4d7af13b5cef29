use Rattle.netlist.proofs.ExamplesShown.{remembers, remembers_through_a_reset}
use Rattle.netlist.proofs.examples.of_rams.Goals as goal

pub returns : goal.returns
returns c = record {
  words = remembers;
  reset = remembers_through_a_reset;
}
