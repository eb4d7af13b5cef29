use Rattle.std.proofs.Common.{◌≡◌, Some, refl, sym, ◌∙◌, subst}
use Rattle.std.specs.List.{slice_get}
use Rattle.std.proofs.lemmas.Option.{same_Some}
use Rattle.chw_types.specs.SameTypes.{SameTypes}
use Rattle.chw_types.proofs.SameLaws.{same_self}
use Rattle.seen_types.specs.NumberOf.{IsNumberOf}
use Rattle.term_spines.proofs.numbers.same_numbered.Goals as goal

pub returns-then-is_one : goal.returns-then-is_one
returns-then-is_one c =
    let a = c.args.a.now in
    let b = c.args.b.now in
    let ts = c.requires.0 in
    let one = c.is_one.ensures c.if-is_one.true in
    let first : slice_get ts one.0 ≡ Some a = subst (λ o. IsNumberOf ts o a) one.1 c.requires.1 in
    let second : slice_get ts one.0 ≡ Some b = subst (λ o. IsNumberOf ts o b) one.2 c.requires.2 in
    (λ y. subst (SameTypes a) (same_Some a b (sym first ∙ second)) (same_self a), λ h. refl)
