-- whether an odd count of the bits so far is set
use Rattle.std.proofs.Common.{◌≡◌, ◌==◌, ◌%◌, take}
use Rattle.std.specs.Prelude.{count_by}
use Rattle.net_sim.proofs.wide.is_odd_set.Given as goal

abbrev pub invariant-loop-bit : goal.invariant-loop-bit
invariant-loop-bit l = l.odd ≡ (count_by (λ bit. bit) (take l.bit-index l.bits) % 2 == 1)
