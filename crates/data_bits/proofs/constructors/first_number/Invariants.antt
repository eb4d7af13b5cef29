use Rattle.std.proofs.Common.{◌≡◌}
use Rattle.chw_layout.specs.Encodes.{first_constructor}
use Rattle.data_bits.proofs.constructors.first_number.Given as goal

abbrev pub invariant-loop-i : goal.invariant-loop-i
invariant-loop-i l = l.first ≡ first_constructor l.datas l.i
