use Rattle.std.proofs.Common.{◌≡◌, ◌++◌}
use Rattle.chw_terms.specs.Unrolled.{each}
use Rattle.prim_vec.specs.Made.{made_at}
use Rattle.prim_vec.proofs.made.push_each.Given as goal

abbrev pub invariant-loop-j : goal.invariant-loop-j
invariant-loop-j l = l.done.items ≡ l.initial.done.items ++ each l.j (made_at l.made)
