-- The codes of numbers, digit by digit.
use Rattle.std.proofs.Common.{◌≡◌, ◌≢◌, ℕ, zero, suc, ◌+◌, ◌/◌, ◌%◌, ◌<◌, ◌≤◌, true, false, cond, eqb, List, [], ◌∷◌, ◌++◌, map, ◌⊎◌, inl, inr, length, get_or, refl, sym, ap, ◌∙◌, subst, arith, lit≤}
use Rattle.std.specs.Int.Digits.{AllBelowBase, digits_of}
use Rattle.std.specs.Prelude.{OnOk, Result, Ok, Err}
use Rattle.std.specs.List.{AllByRecursion}
use Rattle.std.proofs.lemmas.Bool.Decides.{eqb_tells}
use Rattle.std.proofs.lemmas.Int.Digits.{all_below_base_digits_of, digits_of_step, first_digits_of, same_from_digits_of}
use Rattle.std.proofs.lemmas.List.{map-append}
use Rattle.waves.specs.Vcd.{code_of}

-- a digit's character
abbrev pub sign : ℕ → ℕ
sign digit = 33 + digit

-- the code of a number other than 0
past : (k : ℕ) → 0 < k → code_of k ≡ map sign (digits_of 94 k)
past k some = at (eqb_tells k 0)
  where
    at : ((eqb k 0 ≡ true) × (k ≡ 0)) ⊎ ((eqb k 0 ≡ false) × (k ≢ 0)) → code_of k ≡ map sign (digits_of 94 k)
    at (inl (test, is)) = absurd (omega arith)
    at (inr (test, isnt)) = ap (λ b. cond b (33 ∷ []) (map sign (digits_of 94 k))) test

-- a number of one digit
pub code_few : (k : ℕ) → k < 94 → code_of k ≡ (33 + k) ∷ []
code_few zero few = refl
code_few (suc k) few =
    let quotient : suc k / 94 ≡ 0 = omega arith in
    let rest : suc k % 94 ≡ suc k = omega arith in
    past (suc k) (omega arith)
    ∙ ap (map sign) (digits_of_step 94 (suc k) (omega arith) (omega arith) ∙ ap (λ q. digits_of 94 q ++ suc k % 94 ∷ []) quotient ∙ ap (λ r. r ∷ []) rest)

-- a number of more digits
pub code_more : (k : ℕ) → 94 ≤ k → code_of k ≡ code_of (k / 94) ++ (33 + k % 94) ∷ []
code_more k many =
    past k (omega arith)
    ∙ ap (map sign) (digits_of_step 94 k (omega arith) (omega arith))
    ∙ map-append sign (digits_of 94 (k / 94)) (k % 94 ∷ [])
    ∙ ap (λ t. t ++ (33 + k % 94) ∷ []) (sym (past (k / 94) (omega arith)))

same_signs : (xs ys : List ℕ) → map sign xs ≡ map sign ys → xs ≡ ys
same_signs [] [] same = refl
same_signs [] (y ∷ ys) same = cc
same_signs (x ∷ xs) [] same = cc
same_signs (x ∷ xs) (y ∷ ys) same =
    let first : 33 + x ≡ 33 + y = cc in
    let others : map sign xs ≡ map sign ys = cc in
    let here : x ≡ y = omega arith in
    let behind = same_signs xs ys others in
    cc

-- the digits of a number other than 0 aren't just 0
no_zero : (digits : List ℕ) → 0 < get_or digits 0 0 → 33 ∷ [] ≡ map sign digits → ⊥
no_zero [] first same = absurd (omega arith)
no_zero (d ∷ digits) first same =
    let here : 33 ≡ 33 + d = cc in
    absurd (omega arith)

pub code_injective : (j k : ℕ) → code_of j ≡ code_of k → j ≡ k
code_injective zero zero same = refl
code_injective zero (suc k) same =
    absurd (no_zero (digits_of 94 (suc k)) (first_digits_of 94 (suc k) (omega arith) (omega arith)) (same ∙ past (suc k) (omega arith)))
code_injective (suc j) zero same =
    absurd (no_zero (digits_of 94 (suc j)) (first_digits_of 94 (suc j) (omega arith) (omega arith)) (sym same ∙ past (suc j) (omega arith)))
code_injective (suc j) (suc k) same =
    same_from_digits_of 94 (suc j) (suc k) (omega arith)
    (same_signs (digits_of 94 (suc j)) (digits_of 94 (suc k)) (sym (past (suc j) (omega arith)) ∙ same ∙ past (suc k) (omega arith)))

some_signs : (digits : List ℕ) → 0 < get_or digits 0 0 → 0 < length (map sign digits)
some_signs [] first = absurd (omega arith)
some_signs (d ∷ digits) first = omega arith

pub code_some : (k : ℕ) → 0 < length (code_of k)
code_some zero = omega arith
code_some (suc k) =
    subst (λ code. 0 < length code) (sym (past (suc k) (omega arith))) (some_signs (digits_of 94 (suc k)) (first_digits_of 94 (suc k) (omega arith) (omega arith)))

-- a visible character
abbrev pub IsVisible : ℕ → Type 0
IsVisible b = (33 ≤ b) × (b ≤ 126)

visible_signs : (digits : List ℕ) → AllBelowBase 94 digits → AllByRecursion IsVisible (map sign digits)
visible_signs [] below = tt
visible_signs (d ∷ digits) below =
    let first = below.0 in
    ((omega arith, omega arith), visible_signs digits below.1)

pub code_visible : (k : ℕ) → AllByRecursion IsVisible (code_of k)
code_visible zero = ((lit≤ tt, lit≤ tt), tt)
code_visible (suc k) =
    subst (AllByRecursion IsVisible) (sym (past (suc k) (omega arith))) (visible_signs (digits_of 94 (suc k)) (all_below_base_digits_of 94 (suc k) (omega arith)))

-- what follows from what holds at `Ok`
pub on_ok : {T E : Type 0} (r : Result T E) (P Q : Type 0) → (P → Q) → OnOk r P → OnOk r Q
on_ok (Ok x) P Q f is = f is
on_ok (Err e) P Q f is = tt
