-- No name of the filter's bindings is declared twice.
use Rattle.std.specs.Prelude.{◌≡◌, ℕ, zero, suc, ◌+◌, ◌-◌, ◌*◌, ◌<◌, ◌≤◌, ◌^◌, false, cond, ◌==◌, List, [], ◌∷◌, ◌++◌, map, Some, None, is_some, option_map, refl, if◌then◌else◌}
use Rattle.std.specs.List.{range_with_len}
use Rattle.std.specs.Str.{bytes_eq}
use Rattle.std.proofs.Common.{ap, arith, ◌∙◌}
use Rattle.std.proofs.lemmas.Bool.{false_from_ne_true}
use Rattle.std.proofs.lemmas.Slice.Eq.{bytes_eq-Decides}
use Rattle.chw_base.specs.declared.limits.TheConstants.{WRITTEN_VECTOR}
use Rattle.chw_grammar.specs.declared.term_tree.Binding.{Binding}
use Rattle.chw_grammar.specs.Literals.{number_of}
use Rattle.chw_grammar.specs.TermView.{bindings_of}
use Rattle.chw_names.specs.Twices.{binding_words}
use Rattle.chw_names.specs.Words.{seconds, when}
use Rattle.name_tables.specs.Names.{is_among, place_of}
use Rattle.make_text.specs.MakeTree.{delay, filter, product, product_name, sum, taken_over, tap_name}
use Rattle.make_typed.proofs.Numbers.{number_decimal}

-- a number for each name: the taps come first, then the products, `y` and `z`
abbrev rank : List ℕ → ℕ
rank [] = 0
rank (c ∷ cs) = (if c == 116 then 0 else c * 10000) + number_of cs

tap_rank : (k : ℕ) → k < 2 ^ 64 → rank (tap_name k) ≡ k
tap_rank k small = omega (arith, number_decimal k small)

product_rank : (k : ℕ) → k < 2 ^ 64 → rank (product_name k) ≡ 1150000 + k
product_rank k small = ap (λ (n : ℕ). 1150000 + n) (number_decimal k small)

-- each name has a lower number
abbrev AllBelow : ℕ → List (List ℕ) → Type 0
AllBelow r [] = Unit {0}
AllBelow r (n ∷ ns) = (rank n < r) × AllBelow r ns

below_more : (r s : ℕ) (names : List (List ℕ)) (name : List ℕ) → r ≤ s → rank name < s → AllBelow r names → AllBelow s (names ++ name ∷ [])
below_more r s [] name le lt below = (lt, tt)
below_more r s (n ∷ ns) name le lt below = (omega (arith, below.0), below_more r s ns name le lt below.1)

new_place : (r : ℕ) (names : List (List ℕ)) (name : List ℕ) → AllBelow r names → r ≤ rank name → place_of names name ≡ None
new_place r [] name below high = refl
new_place r (n ∷ ns) name below high =
    let differ : bytes_eq name n ≡ false =
    false_from_ne_true (bytes_eq name n) (λ e. omega (arith, ap rank ((bytes_eq-Decides name n).0 e), below.0)) in
    let later : place_of ns name ≡ None = new_place r ns name below.1 high in
    (λ i. cond (differ i) (Some 0) (option_map (λ (p : ℕ). p + 1) (later i)))

-- the numbers of the bindings' names rise, from at least this one on
abbrev Rising : ℕ → List Binding → Type 0
Rising r [] = Unit {0}
Rising r (b ∷ bs) = (r ≤ rank b.name.bytes) × Rising (rank b.name.bytes + 1) bs

rising_once : (r : ℕ) (known : List (List ℕ)) (bs : List Binding) → AllBelow r known → Rising r bs → seconds known (binding_words (bindings_of bs)) ≡ []
rising_once r known [] below rising = refl
rising_once r known (b ∷ bs) below rising =
    let name = b.name.bytes in
    let words = binding_words (bindings_of bs) in
    let new : is_among known name ≡ false = ap is_some (new_place r known name below rising.0) in
    let more : AllBelow (rank name + 1) (known ++ name ∷ []) = below_more r (rank name + 1) known name (omega (arith, rising.0)) (omega arith) below in
    (λ i. when (new i) b.name ++ seconds (cond (new i) known (known ++ name ∷ [])) words)
    ∙ rising_once (rank name + 1) (known ++ name ∷ []) bs more rising.1

delays_rise : (r a n : ℕ) (rest : List Binding) → r ≤ a + 1 → a + n ≤ WRITTEN_VECTOR → ((s : ℕ) → s ≤ a + n + 1 → Rising s rest)
    → Rising r (map delay (range_with_len a n) ++ rest)
delays_rise r a zero rest le few more = more r (omega arith)
delays_rise r a (suc n) rest le few more =
    let is : rank (tap_name (a + 1)) ≡ a + 1 = tap_rank (a + 1) (omega arith) in
    (omega (arith, is), delays_rise (rank (tap_name (a + 1)) + 1) (a + 1) n rest (omega (arith, is)) (omega arith) (λ s h. more s (omega (arith, h))))

products_rise : (r a n : ℕ) (rest : List Binding) → r ≤ 1150000 + a → a + n ≤ WRITTEN_VECTOR → ((s : ℕ) → s ≤ 1150000 + a + n → Rising s rest)
    → Rising r (map product (range_with_len a n) ++ rest)
products_rise r a zero rest le few more = more r (omega arith)
products_rise r a (suc n) rest le few more =
    let is : rank (product_name a) ≡ 1150000 + a = product_rank a (omega arith) in
    (omega (arith, is), products_rise (rank (product_name a) + 1) (a + 1) n rest (omega (arith, is)) (omega arith) (λ s h. more s (omega (arith, h))))

last_rise : (taps s : ℕ) → s ≤ 1210000 → Rising s (sum taps ∷ taken_over ∷ [])
last_rise taps s low = (omega arith, (omega arith, tt))

filter_rises : (taps : ℕ) → taps ≤ WRITTEN_VECTOR → Rising 0 (filter taps)
filter_rises taps few =
    let first : rank (tap_name 0) ≡ 0 = tap_rank 0 (omega arith) in (
      omega arith,
      delays_rise (rank (tap_name 0) + 1) 0 (taps - 1) _ (omega (arith, first)) (omega arith)
          (λ s h. products_rise s 0 taps _ (omega (arith, h)) (omega arith) (λ t low. last_rise taps t (omega (arith, low)))),
    )

pub filter_once : (taps : ℕ) → taps ≤ WRITTEN_VECTOR → seconds [] (binding_words (bindings_of (filter taps))) ≡ []
filter_once taps few = rising_once 0 [] (filter taps) tt (filter_rises taps few)
