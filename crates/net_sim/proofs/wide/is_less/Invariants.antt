-- what is left decides
use Rattle.std.proofs.Common.{◌≡◌, drop}
use Rattle.std.specs.Prelude.{nat_lt}
use Rattle.chw_bits.specs.Bits.{number_of}
use Rattle.net_sim.proofs.wide.is_less.Given as goal

abbrev pub invariant-loop-i : goal.invariant-loop-i
invariant-loop-i l =
    nat_lt (number_of (drop l.i l.left)) (number_of (drop l.i l.right))
    ≡ nat_lt (number_of (drop l.from l.left)) (number_of (drop l.from l.right))
