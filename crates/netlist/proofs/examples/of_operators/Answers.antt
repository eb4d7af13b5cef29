use Rattle.netlist.proofs.ExamplesShown.{arithmetic, bit_by_bit, comparisons, shifts, reductions, parts}
use Rattle.netlist.proofs.examples.of_operators.Goals as goal

pub returns : goal.returns
returns c = record {
  arithmetic = arithmetic;
  bits = bit_by_bit;
  comparisons = comparisons;
  shifts = shifts;
  reductions = reductions;
  parts = parts;
}
