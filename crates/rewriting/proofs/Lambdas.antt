-- Below the leading lambdas of a term there is one place.
use Rattle.std.proofs.Common.{◌≡◌, ℕ, refl, ap, List, ◌∷◌}
use Rattle.chw_types.specs.TypeTree.{TypeTree}
use Rattle.chw_terms.specs.TermTree.{TermTree}
use Rattle.rewriting.specs.Named.{UnderLambdas, under_none, under_one}

pub one_under : {vars vs vs' : List TypeTree} {e x x' : TermTree} {t : TypeTree} {p p' : List ℕ} → UnderLambdas vars e t p vs x → UnderLambdas vars e t p' vs' x' → (p ≡ p') × (vs ≡ vs') × (x ≡ x')
one_under (under_none a) (under_none b) = (refl, refl, refl)
one_under (under_none a) (under_one s u) = absurd a
one_under (under_one s u) (under_none a) = absurd a
one_under (under_one s u) (under_one s' u') =
    let more = one_under u u' in (ap (λ p. 0 ∷ p) more.0, more.1, more.2)
