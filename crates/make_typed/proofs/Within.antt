-- A filter passes no limit.
use Rattle.std.specs.Prelude.{◌≡◌, ℕ, zero, suc, ◌+◌, ◌-◌, ◌≤◌, false, ◌||◌, List, [], ◌∷◌, ◌++◌, map, codes, decimal, Option, is_none, refl}
use Rattle.std.specs.List.{range_with_len}
use Rattle.std.proofs.Common.{ap, arith, ◌∙◌}
use Rattle.std.proofs.lemmas.Bool.{le-ltb}
use Rattle.chw_base.specs.declared.limits.TheConstants.{WRITTEN_VECTOR}
use Rattle.chw_grammar.specs.declared.literal.Literal.{Literal}
use Rattle.chw_grammar.specs.declared.term_tree.Binding.{Binding}
use Rattle.chw_grammar.specs.Literals.{within}
use Rattle.chw_grammar.specs.TermView.{bindings_of, terms_of}
use Rattle.chw_limits.specs.Limits.{great_numbers, great_values, long_vectors}
use Rattle.chw_limits.specs.Parts.{Tests, bindings_have, term_has, terms_count, terms_have, type_has}
use Rattle.make_text.specs.MakeTree.{delay, filter, later_product, main_term, main_type, plus_body, plus_term, plus_type, product, products, signal_in, sum, taken_over, times}
use Rattle.make_text.specs.MakeTree.{word_type as written_word}
use Rattle.make_typed.proofs.Filter.{Each, filter_has}
use Rattle.make_typed.proofs.Numbers.{literal_is, number_decimal, within_some}

-- the tests pass nothing that stands in a filter
pub record PassNone (tests : Tests) (taps : ℕ) : Type 0 where
  pub vector : tests.vector taps ≡ false
  pub zero : tests.literal (codes "0u16") ≡ false
  pub literals : (k : ℕ) → k ≤ WRITTEN_VECTOR → tests.literal (decimal k ++ codes "u16") ≡ false
  pub sixteen : tests.numeral (codes "16") ≡ false
  pub numeral : tests.numeral (decimal taps) ≡ false

pub long_none : (taps : ℕ) → taps ≤ WRITTEN_VECTOR → PassNone long_vectors taps
long_none taps few =
    record { vector = le-ltb WRITTEN_VECTOR taps few; zero = refl; literals = λ k small. refl; sixteen = refl; numeral = refl }

pub values_none : (taps : ℕ) → PassNone great_values taps
values_none taps = record {
  vector = refl;
  zero = refl;
  literals = λ k small. ap (λ (l : Literal). is_none l.value) (literal_is k (omega (arith, small)));
  sixteen = refl;
  numeral = refl;
}

pub numbers_none : (taps : ℕ) → taps ≤ WRITTEN_VECTOR → PassNone great_numbers taps
numbers_none taps few = record {
  vector = refl;
  zero = refl;
  literals = λ k small. ap (λ (l : Literal). is_none l.width) (literal_is k (omega (arith, small)));
  sixteen = refl;
  numeral =
      ap (λ (n : ℕ). is_none (within 32 n)) (number_decimal taps (omega arith))
      ∙ ap (λ (o : Option ℕ). is_none o) (within_some 32 taps (omega arith));
}

later_counted : (a n : ℕ) → terms_count (terms_of (map later_product (range_with_len a n))) ≡ n
later_counted a zero = refl
later_counted a (suc n) = omega (arith, later_counted (a + 1) n)

abbrev IsWithin : Tests → Binding → Type 0
IsWithin tests b = (type_has tests b.ty ≡ false) × (term_has tests b.term ≡ false)

module _ (tests : Tests) (taps : ℕ) (none : PassNone tests taps) where
  word_within : type_has tests written_word ≡ false
  word_within = λ i. none.sixteen i || false

  signal_within : (d : List ℕ) → type_has tests (signal_in d) ≡ false
  signal_within d = λ i. word_within i || false

  pub plus_type_within : type_has tests plus_type ≡ false
  plus_type_within = let s = signal_within (codes "A") in λ i. s i || (s i || s i)

  pub main_type_within : type_has tests main_type ≡ false
  main_type_within = let s = signal_within (codes "A") in let t = signal_within (codes "B") in λ i. s i || t i

  body_within : term_has tests plus_body ≡ false
  body_within =
      let w = word_within in
      λ i. w i || (w i || ((w i || ((w i || w i) || ((none.sixteen i || false) || false))) || false))

  pub plus_within : term_has tests plus_term ≡ false
  plus_within = let s = signal_within (codes "A") in let body = body_within in λ i. s i || (s i || body i)

  times_within : (k : ℕ) → k ≤ WRITTEN_VECTOR → term_has tests (times k) ≡ false
  times_within k small = let l = none.literals k small in let w = word_within in λ i. w i || (none.sixteen i || (l i || false))

  delay_within : (k : ℕ) → term_has tests (delay k).term ≡ false
  delay_within k = let w = word_within in λ i. w i || (none.zero i || false)

  product_within : (k : ℕ) → k + 1 ≤ WRITTEN_VECTOR → term_has tests (product k).term ≡ false
  product_within k small = let w = word_within in let t = times_within (k + 1) small in λ i. w i || (w i || (t i || false))

  later_within : (ks : List ℕ) → terms_have tests (terms_of (map later_product ks)) ≡ false
  later_within [] = refl
  later_within (k ∷ ks) = later_within ks

  sum_within : 1 ≤ taps → term_has tests (sum taps).term ≡ false
  sum_within some =
      let s = signal_within (codes "A") in
      let w = word_within in
      let counted : terms_count (terms_of (products taps)) ≡ taps = omega (arith, later_counted 0 (taps - 1)) in
      let long : tests.vector (terms_count (terms_of (products taps))) ≡ false = ap tests.vector counted ∙ none.vector in
      let all = later_within (range_with_len 0 (taps - 1)) in
      λ i. none.numeral i || (s i || (s i || ((w i || (none.zero i || false)) || (((long i || s i) || all i) || false))))

  taken_within : term_has tests taken_over.term ≡ false
  taken_within = let w = word_within in λ i. w i || (none.zero i || ((w i || false) || false))

  bindings_within : (bs : List Binding) → Each (IsWithin tests) bs → bindings_have tests (bindings_of bs) ≡ false
  bindings_within [] each = refl
  bindings_within (b ∷ bs) each = let more = bindings_within bs each.1 in λ i. (each.0.0 i || each.0.1 i) || more i

  pub main_within : 1 ≤ taps → taps ≤ WRITTEN_VECTOR → term_has tests (main_term taps) ≡ false
  main_within some few =
      let s = signal_within (codes "A") in
      let each : Each (IsWithin tests) (filter taps) =
      filter_has (IsWithin tests) taps (s, refl) (λ k small. (s, delay_within k)) (λ k small. (s, product_within k (omega (arith, small))))
      (s, sum_within some) (signal_within (codes "B"), taken_within) in
      let all = bindings_within (filter taps) each in
      λ i. s i || (all i || false)
