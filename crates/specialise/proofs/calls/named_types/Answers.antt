use Rattle.std.proofs.Common.{arith}
use Rattle.chw_types.specs.TypeTree.{TypeTree}
use Rattle.rewriting.specs.Origins.{origins_of}
use Rattle.rewriting.specs.Spots.{spot_of}
use Rattle.seen_types.proofs.Matched.{of_none, of_some}
use Rattle.specialise.specs.Calls.{HasNamedType}
use Rattle.specialise.specs.Closed.{numbers}
use Rattle.specialise.proofs.Scoped.{typed_more, none_have, number_at, all_typed}
use Rattle.specialise.proofs.calls.named_types.Goals as goal

pub returns-in_default : goal.returns-in_default
returns-in_default c =
    let o = origins_of c.args.scene.now in
    let at = spot_of c.args.place.now in
    let free = c.args.free.now in
    let i = c.loop-at.at-index in
    none_have o at (numbers free) i _ (number_at free i (record { number = 0 }) c.loop-at-test.true)
    (of_none ((t : TypeTree) → HasNamedType o at _ t → ⊥) (λ t. HasNamedType o at _ t)
    c.in_ok-ty.field-0 c.in_default.not-Some c.in_ok-ty.ensures)

pub loop-at-preserved : goal.loop-at-preserved
loop-at-preserved c =
    let o = origins_of c.args.scene.now in
    let at = spot_of c.args.place.now in
    typed_more c.args.free.now c.loop-at.at-index (record { number = 0 }) c.loop-at.types.items
    c.push.new.self.items c.in-Some.ty c.loop-at-test.true c.loop-at.invariant
    (of_some ((t : TypeTree) → HasNamedType o at _ t → ⊥) (λ t. HasNamedType o at _ t)
    c.in_ok-ty.field-0 c.in-Some.ty c.in-Some.is c.in_ok-ty.ensures)
    c.in_ok-push.ensures.items

pub returns : goal.returns
returns c =
    all_typed (origins_of c.args.scene.now) (spot_of c.args.place.now) c.args.free.now
    c.loop-at.at-index c.loop-at.types.items (omega (arith, c.loop-at-test.false))
    c.loop-at.invariant
