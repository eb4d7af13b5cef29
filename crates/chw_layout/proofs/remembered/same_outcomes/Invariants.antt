use Rattle.std.proofs.Common.{◌≡◌, take}
use Rattle.chw_layout.proofs.remembered.same_outcomes.Given as goal

abbrev pub invariant-loop-i : goal.invariant-loop-i
invariant-loop-i l = take l.i l.a ≡ take l.i l.b
