use Rattle.std.proofs.Common.{refl}
use Rattle.chw_types.specs.TypeTree.{TypeTree}
use Rattle.rewriting.specs.Origins.{origins_of}
use Rattle.rewriting.specs.Spots.{spot_of}
use Rattle.seen_types.proofs.Matched.{of_none, of_some}
use Rattle.specialise.specs.Seeds.{HasLambdas}
use Rattle.specialise.proofs.trial.lifted_seed.Goals as goal

pub returns-in_default : goal.returns-in_default
returns-in_default c =
    let o = origins_of c.args.scene.now in
    let at = spot_of c.args.place.now in
    let g = c.args.function.now in
    of_none ((t : TypeTree) → HasLambdas o at g t → ⊥) (λ t. HasLambdas o at g t)
    c.in_ok-ty.field-0 c.in_default.not-Some c.in_ok-ty.ensures

pub returns : goal.returns
returns c =
    let o = origins_of c.args.scene.now in
    let at = spot_of c.args.place.now in
    let g = c.args.function.now in
    let ty = c.in-Some.ty in
    let lambdas : HasLambdas o at g ty =
    of_some ((t : TypeTree) → HasLambdas o at g t → ⊥) (λ t. HasLambdas o at g t)
    c.in_ok-ty.field-0 ty c.in-Some.is c.in_ok-ty.ensures in
    (lambdas, c.in_ok-origin.ensures, refl)
