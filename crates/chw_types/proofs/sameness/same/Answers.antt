use Rattle.std.proofs.Common.{refl, sym, ◌∙◌, subst}
use Rattle.chw_types.specs.SameTypes.{SameTypes}
use Rattle.chw_types.proofs.SameLaws.{same_self}
use Rattle.chw_types.proofs.SameTypesFound.{found_is_same, same_is_found}
use Rattle.chw_types.proofs.sameness.same.Goals as goal

pub returns-then-equal : goal.returns-then-equal
returns-then-equal c =
    (λ same. subst (SameTypes c.args.a.now) (c.if-equal.ensures.0 refl) (same_self c.args.a.now), λ s. refl)

pub returns : goal.returns
returns c =
    (λ h. found_is_same c.args.a.now c.args.b.now (sym c.in_ok-same_in.ensures ∙ h), λ s. c.in_ok-same_in.ensures ∙ same_is_found s)
