use Rattle.std.proofs.Common.{◌≡◌, drop}
use Rattle.chw_types.specs.TypeView.{trees_of}
use Rattle.chw_types.specs.SameFound.{same_all}
use Rattle.chw_types.proofs.sameness.+same_in.Given as goal

abbrev pub invariant-loop-i : goal.invariant-loop-i
invariant-loop-i l = same_all (trees_of (drop l.i l.t-items)) (trees_of (drop l.i l.us.items)) ≡ same_all (trees_of l.t-items) (trees_of l.us.items)
