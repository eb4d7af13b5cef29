use Rattle.std.proofs.Common.{◌≡◌, ◌+◌, drop}
use Rattle.std.specs.Prelude.{reverse}
use Rattle.chw_types.specs.Arguments.{given}
use Rattle.chw_types.specs.TypeView.{trees_of}
use Rattle.chw_types.specs.TypeSize.{tree_size, trees_size}
use Rattle.chw_types.specs.TypeMoves.{up_by, sub_all}
use Rattle.chw_types.proofs.Rooms.{Passed}
use Rattle.chw_types.proofs.room.+parts_left.Given as goal

-- a type and all that may be put into it
abbrev pub decreases-parts_left : goal.decreases-parts_left
decreases-parts_left l = tree_size l.t.now + trees_size (trees_of l.args.now)

abbrev pub invariant-loop-part : goal.invariant-loop-part
invariant-loop-part l =
    let σ = up_by l.under (given (reverse l.args)) in
    (l.inner.depth ≡ l.initial.inner.depth)
    × Passed (sub_all (trees_of l.part-items) σ) (sub_all (trees_of (drop l.part-index l.part-items)) σ) l.initial.inner.depth l.initial.inner.parts l.inner.parts
