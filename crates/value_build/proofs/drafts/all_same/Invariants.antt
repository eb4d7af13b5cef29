-- what is left is equal where all is
use Rattle.std.proofs.Common.{◌≡◌, ◌↔◌, drop}
use Rattle.value_build.proofs.drafts.all_same.Given as goal

abbrev pub invariant-loop-i : goal.invariant-loop-i
invariant-loop-i l = (drop l.i l.a ≡ drop l.i l.b) ↔ (l.a ≡ l.b)
