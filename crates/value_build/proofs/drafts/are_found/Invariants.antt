-- what is left is equal where all is
use Rattle.std.proofs.Common.{◌≡◌, ◌↔◌, drop}
use Rattle.value_build.proofs.drafts.are_found.Given as goal

abbrev pub invariant-loop-i : goal.invariant-loop-i
invariant-loop-i l = (drop l.i l.known ≡ drop l.i l.found) ↔ (l.known ≡ l.found)
