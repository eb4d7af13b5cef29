-- What holds of each binding of a filter holds of all.
use Rattle.std.specs.Prelude.{◌≡◌, ℕ, zero, suc, ◌+◌, ◌-◌, ◌<◌, List, [], ◌∷◌, ◌++◌, map, ◌⊎◌}
use Rattle.std.specs.List.{range_with_len}
use Rattle.std.proofs.Common.{ap, arith, inl, inr, refl, subst}
use Rattle.chw_grammar.specs.declared.term_tree.Binding.{Binding}
use Rattle.make_text.specs.MakeTree.{delay, filter, first_tap, product, product_name, sum, taken_over, tap_name}

-- each of these bindings has it
abbrev pub Each : (Binding → Type 0) → List Binding → Type 0
Each Has [] = Unit {0}
Each Has (b ∷ bs) = Has b × Each Has bs

module _ (Has : Binding → Type 0) where
  delays_have : (a n : ℕ) (rest : List Binding) → ((k : ℕ) → k < a + n → Has (delay k)) → Each Has rest → Each Has (map delay (range_with_len a n) ++ rest)
  delays_have a zero rest each more = more
  delays_have a (suc n) rest each more =
      (each a (omega arith), delays_have (a + 1) n rest (λ k small. each k (omega (arith, small))) more)

  products_have : (a n : ℕ) (rest : List Binding) → ((k : ℕ) → k < a + n → Has (product k)) → Each Has rest → Each Has (map product (range_with_len a n) ++ rest)
  products_have a zero rest each more = more
  products_have a (suc n) rest each more =
      (each a (omega arith), products_have (a + 1) n rest (λ k small. each k (omega (arith, small))) more)

  -- the first tap, those that delay it, the products, their sum, and what takes it over
  pub filter_has : (taps : ℕ) → Has first_tap → ((k : ℕ) → k + 1 < taps → Has (delay k)) → ((k : ℕ) → k < taps → Has (product k))
      → Has (sum taps) → Has taken_over → Each Has (filter taps)
  filter_has taps first delays products total last = (
    first,
    delays_have 0 (taps - 1) _ (λ k small. delays k (omega (arith, small)))
        (products_have 0 taps _ (λ k small. products k (omega (arith, small))) (total, (last, tt))),
  )

-- a binding of this name is among these
abbrev pub Binds : List ℕ → List Binding → Type 0
Binds name [] = ⊥
Binds name (b ∷ bs) = (b.name.bytes ≡ name) ⊎ Binds name bs

binds_behind : (name : List ℕ) (front rest : List Binding) → Binds name rest → Binds name (front ++ rest)
binds_behind name [] rest h = h
binds_behind name (b ∷ front) rest h = inr (binds_behind name front rest h)

binds_delay : (a n i : ℕ) (rest : List Binding) → i < n → Binds (tap_name (a + i + 1)) (map delay (range_with_len a n) ++ rest)
binds_delay a zero i rest small = absurd (omega arith)
binds_delay a (suc n) zero rest small = let is : a + 1 ≡ a + 0 + 1 = omega arith in inl (ap tap_name is)
binds_delay a (suc n) (suc i) rest small =
    let is : a + 1 + i + 1 ≡ a + suc i + 1 = omega arith in
    let later : Binds (tap_name (a + 1 + i + 1)) (map delay (range_with_len (a + 1) n) ++ rest) = binds_delay (a + 1) n i rest (omega arith) in
    inr (subst (λ (k : ℕ). Binds (tap_name k) (map delay (range_with_len (a + 1) n) ++ rest)) is later)

binds_product : (a n i : ℕ) (rest : List Binding) → i < n → Binds (product_name (a + i)) (map product (range_with_len a n) ++ rest)
binds_product a zero i rest small = absurd (omega arith)
binds_product a (suc n) zero rest small = let is : a ≡ a + 0 = omega arith in inl (ap product_name is)
binds_product a (suc n) (suc i) rest small =
    let is : a + 1 + i ≡ a + suc i = omega arith in
    let later : Binds (product_name (a + 1 + i)) (map product (range_with_len (a + 1) n) ++ rest) = binds_product (a + 1) n i rest (omega arith) in
    inr (subst (λ (k : ℕ). Binds (product_name k) (map product (range_with_len (a + 1) n) ++ rest)) is later)

-- the bindings behind the taps
abbrev behind_taps : ℕ → List Binding
behind_taps taps = map product (range_with_len 0 taps) ++ (sum taps ∷ taken_over ∷ [])

pub binds_tap : (taps k : ℕ) → k < taps → Binds (tap_name k) (filter taps)
binds_tap taps zero small = inl refl
binds_tap taps (suc k) small =
    let is : 0 + k + 1 ≡ suc k = omega arith in
    inr (subst (λ (i : ℕ). Binds (tap_name i) (map delay (range_with_len 0 (taps - 1)) ++ behind_taps taps)) is
    (binds_delay 0 (taps - 1) k (behind_taps taps) (omega arith)))

pub binds_product_of : (taps k : ℕ) → k < taps → Binds (product_name k) (filter taps)
binds_product_of taps k small =
    let is : 0 + k ≡ k = omega arith in
    inr (binds_behind (product_name k) (map delay (range_with_len 0 (taps - 1))) (behind_taps taps)
    (subst (λ (i : ℕ). Binds (product_name i) (behind_taps taps)) is (binds_product 0 taps k (sum taps ∷ taken_over ∷ []) small)))

pub binds_last : (taps : ℕ) (name : List ℕ) → Binds name (sum taps ∷ taken_over ∷ []) → Binds name (filter taps)
binds_last taps name h =
    inr (binds_behind name (map delay (range_with_len 0 (taps - 1))) (behind_taps taps)
    (binds_behind name (map product (range_with_len 0 taps)) (sum taps ∷ taken_over ∷ []) h))
