-- The test of the words' form, as a fact of each word.
use Rattle.std.proofs.Common.{◌≡◌, ◌∙◌, sym, refl, ap, ap₂, map, ℕ, ◌+◌, ◌≤◌, Bool, true, false, not, cond, ◌&&◌, ◌||◌, List, [], ◌∷◌, ◌++◌, codes, inl, inr, ◌⊎◌, subst, ⊎_elim, take, drop, arith}
use Rattle.std.specs.Prelude.{count_by, nat_le, nat_eq}
use Rattle.std.specs.List.{AllByRecursion, list_all, starts_with}
use Rattle.std.specs.Str.{bytes_eq}
use Rattle.std.proofs.lemmas.Bool.{and_parts, le-leb, leb-true}
use Rattle.std.proofs.lemmas.List.{take-append-drop}
use Rattle.std.proofs.lemmas.List.Folds.{list_all-map}
use Rattle.std.proofs.lemmas.List.Sums.{sum_by-cons}
use Rattle.std.proofs.lemmas.Slice.Eq.{bytes_eq-Decides}
use Rattle.chw_words.specs.Commands.{is_option}
use Rattle.chw_words.specs.Form.{has_form, is_budget_option}
use Rattle.chw_words.proofs.Shapes.{Form, IsBudgetWord, IsPlain}

pub is_or_not : (b : Bool) → (b ≡ true) ⊎ (b ≡ false)
is_or_not true = inl refl
is_or_not false = inr refl

-- the word is no option but a budget's
abbrev may_stand : List ℕ → Bool
may_stand word = not (is_option word) || is_budget_option word

abbrev one_if : Bool → ℕ
one_if b = cond b 1 0

abbrev option_count : List (List ℕ) → ℕ
option_count words = count_by is_option words

count-cons : (word : List ℕ) (words : List (List ℕ)) → option_count (word ∷ words) ≡ one_if (is_option word) + option_count words
count-cons word words = sum_by-cons (λ w. cond (is_option w) 1 0) word words

budget_word : (word : List ℕ) → is_budget_option word ≡ true → IsBudgetWord word
budget_word word e =
    ⊎_elim (λ is. inl ((bytes_eq-Decides word (codes "--budget")).0 is))
    (λ not_it.
    let begins : starts_with nat_eq word (codes "--budget=") ≡ true = sym (ap (λ b. b || starts_with nat_eq word (codes "--budget=")) not_it) ∙ e in
    let first : codes "--budget=" ≡ take 9 word = (bytes_eq-Decides (codes "--budget=") (take 9 word)).0 begins in
    inr (drop 9 word, sym (take-append-drop 9 word) ∙ ap (λ t. t ++ drop 9 word) (sym first)))
    (is_or_not (bytes_eq word (codes "--budget")))

no_options : (words : List (List ℕ)) → option_count words ≡ 0 → AllByRecursion IsPlain words
no_options [] e = tt
no_options (word ∷ words) e =
    let n = count-cons word words in
    ⊎_elim (λ is. let one : one_if (is_option word) ≡ 1 = ap one_if is in absurd (omega (arith, n, one, e)))
    (λ plain. (plain, no_options words (omega (arith, n, e))))
    (is_or_not (is_option word))

form_of : (words : List (List ℕ)) → option_count words ≤ 1 → list_all may_stand words ≡ true → Form words
form_of [] few all = tt
form_of (word ∷ words) few all =
    let n = count-cons word words in
    let parts = and_parts (may_stand word) (list_all may_stand words) all in
    ⊎_elim
    (λ is.
    let one : one_if (is_option word) ≡ 1 = ap one_if is in
    let budget : is_budget_option word ≡ true = sym (ap (λ b. not b || is_budget_option word) is) ∙ parts.0 in
    inr (budget_word word budget, no_options words (omega (arith, n, one, few))))
    (λ plain. inl (plain, form_of words (omega (arith, n, few)) (parts.1)))
    (is_or_not (is_option word))

-- words that pass the test have the form
pub form_from : (words : List (List ℕ)) → has_form words ≡ true → Form words
form_from words e =
    let parts = and_parts (nat_le (option_count words) 1) (list_all may_stand words) e in
    form_of words (leb-true (option_count words) 1 (parts.0)) (parts.1)

plain_count : (words : List (List ℕ)) → AllByRecursion IsPlain words → (option_count words ≡ 0) × (list_all may_stand words ≡ true)
plain_count [] h = (refl, refl)
plain_count (word ∷ words) h =
    let n = count-cons word words in
    let none : one_if (is_option word) ≡ 0 = ap one_if h.0 in
    let rest = plain_count words h.1 in (
      omega (arith, n, none, rest.0),
      ap (λ b. (not b || is_budget_option word) && list_all may_stand words) h.0 ∙ rest.1,
    )

may_stand_option : (word : List ℕ) → IsBudgetWord word → may_stand word ≡ true
may_stand_option word (inl is) = subst (λ w. may_stand w ≡ true) (sym is) refl
may_stand_option word (inr is) = subst (λ w. may_stand w ≡ true) (sym (is.1)) refl

form_count : (words : List (List ℕ)) → Form words → (option_count words ≤ 1) × (list_all may_stand words ≡ true)
form_count [] h = (omega arith, refl)
form_count (word ∷ words) (inl h) =
    let n = count-cons word words in
    let none : one_if (is_option word) ≡ 0 = ap one_if h.0 in
    let rest = form_count words h.1 in (
      omega (arith, n, none, rest.0),
      ap (λ b. (not b || is_budget_option word) && list_all may_stand words) h.0 ∙ rest.1,
    )
form_count (word ∷ words) (inr h) =
    let n = count-cons word words in
    let rest = plain_count words h.1 in
    let most : one_if (is_option word) ≤ 1 =
    ⊎_elim (λ is. let one : one_if (is_option word) ≡ 1 = ap one_if is in omega (arith, one))
    (λ plain. let none : one_if (is_option word) ≡ 0 = ap one_if plain in omega (arith, none)) (is_or_not (is_option word)) in (
      omega (arith, n, most, rest.0),
      ap (λ b. b && list_all may_stand words) (may_stand_option word h.0) ∙ rest.1,
    )

-- words of the form pass the test
pub form_test : (words : List (List ℕ)) → Form words → has_form words ≡ true
form_test words h =
    let parts = form_count words h in
    ap (λ b. b && list_all may_stand words) (le-leb (option_count words) 1 parts.0) ∙ parts.1

-- ---- the words as texts

count_of_texts : {X : Type 0} (p : List ℕ → Bool) (text : X → List ℕ) (xs : List X) → count_by p (map text xs) ≡ count_by (λ x. p (text x)) xs
count_of_texts p text [] = refl
count_of_texts p text (x ∷ xs) =
    sum_by-cons (λ w. cond (p w) 1 0) (text x) (map text xs)
    ∙ ap (λ n. cond (p (text x)) 1 0 + n) (count_of_texts p text xs)
    ∙ sym (sum_by-cons (λ y. cond (p (text y)) 1 0) x xs)

-- the test of texts is that of their words
pub has_form_of_texts : {X : Type 0} (text : X → List ℕ) (xs : List X)
    → (nat_le (count_by (λ x. is_option (text x)) xs) 1 && list_all (λ x. may_stand (text x)) xs) ≡ has_form (map text xs)
has_form_of_texts text xs =
    ap₂ (λ n b. nat_le n 1 && b) (sym (count_of_texts is_option text xs)) (sym (list_all-map may_stand text xs))

-- so they are where few of them are options
pub few_options : {X : Type 0} (text : X → List ℕ) (xs : List X) (b : Bool) → count_by (λ x. is_option (text x)) xs ≤ 1
    → b ≡ list_all (λ x. may_stand (text x)) xs → b ≡ has_form (map text xs)
few_options text xs b few is =
    is ∙ sym (ap (λ it. it && list_all (λ x. may_stand (text x)) xs) (le-leb (count_by (λ x. is_option (text x)) xs) 1 few)) ∙ has_form_of_texts text xs
