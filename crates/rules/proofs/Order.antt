-- Rules in the order of their numbers.
use Rattle.std.proofs.Common.{◌≡◌, ℕ, zero, suc, ◌<◌, List, [], ◌∷◌, length, sym, subst, arith}
use Rattle.std.specs.List.{slice_index_or}
use Rattle.chw_terms.specs.declared.rule.Rule.{Rule}
use Rattle.rewriting.specs.Steps.{number_of}
use Rattle.trials.specs.Trials.{built}

-- their numbers are above this one, and ascend
abbrev pub Ascend : ℕ → List Rule → Type 0
Ascend n [] = Unit {0}
Ascend n (r ∷ rs) = (n < number_of r) × Ascend (number_of r) rs

above : (n : ℕ) (rs : List Rule) (k : ℕ) (r d : Rule) → Ascend n rs → k < length rs → slice_index_or rs k d ≡ r → n < number_of r
above n [] k r d a l e = absurd (omega (arith, l))
above n (x ∷ xs) zero r d a l e = subst (λ y. n < number_of y) e (a.0)
above n (x ∷ xs) (suc k) r d a l e =
    let first = a.0 in
    let more = above (number_of x) xs k r d (a.1) (omega (arith, l)) e in
    omega (arith, first, more)

-- of two of them the one of the smaller number is earlier
pub earlier : (n : ℕ) (rs : List Rule) (i j : ℕ) (r s d d' : Rule) → Ascend n rs → i < length rs → j < length rs
    → slice_index_or rs i d ≡ r → slice_index_or rs j d' ≡ s → number_of s < number_of r → j < i
earlier n [] i j r s d d' a l l' e f less = absurd (omega (arith, l))
earlier n (x ∷ xs) zero zero r s d d' a l l' e f less =
    let there : number_of x < number_of r = subst (λ y. number_of y < number_of r) (sym f) less in
    let both : number_of x < number_of x = subst (λ y. number_of x < number_of y) (sym e) there in
    absurd (omega (arith, both))
earlier n (x ∷ xs) zero (suc j) r s d d' a l l' e f less =
    let up = above (number_of x) xs j s d' (a.1) (omega (arith, l')) f in
    let there : number_of s < number_of x = subst (λ y. number_of s < number_of y) (sym e) less in
    absurd (omega (arith, up, there))
earlier n (x ∷ xs) (suc i) zero r s d d' a l l' e f less = omega arith
earlier n (x ∷ xs) (suc i) (suc j) r s d d' a l l' e f less =
    let more = earlier (number_of x) xs i j r s d d' (a.1) (omega (arith, l)) (omega (arith, l')) e f less in
    omega (arith, more)

-- those that are tried stand in their order
pub built_ascend : Ascend 0 built
built_ascend =
    (omega arith, (omega arith, (omega arith, (omega arith, (omega arith, (omega arith, (omega arith, (omega arith, (omega arith, (omega arith, (omega arith, (omega arith, (omega arith, (omega arith, (omega arith, (omega arith, (omega arith, (omega arith, (omega arith, (omega arith, (omega arith, tt)))))))))))))))))))))
