-- The tree of a filter is low, however many taps it has.
use Rattle.std.specs.Prelude.{ℕ, ◌-◌, ◌≤◌, List, [], ◌∷◌, ◌++◌, map}
use Rattle.std.specs.List.{range_with_len}
use Rattle.std.proofs.Common.{arith}
use Rattle.chw_base.specs.declared.limits.TheConstants.{NESTING}
use Rattle.chw_grammar.specs.declared.term_tree.Binding.{Binding}
use Rattle.chw_grammar.specs.Height.{bindings_height, terms_height, tree_height}
use Rattle.chw_grammar.specs.TermView.{bindings_of, terms_of}
use Rattle.make_text.specs.MakeTree.{delay, filter, later_product, make_tree, product, sum, taken_over}

products_low : (ks : List ℕ) → terms_height (terms_of (map later_product ks)) ≤ 1
products_low [] = omega arith
products_low (k ∷ ks) = omega (arith, products_low ks)

delays_low : (ks : List ℕ) (bs : List Binding) → bindings_height (bindings_of bs) ≤ 100 → bindings_height (bindings_of (map delay ks ++ bs)) ≤ 100
delays_low [] bs low = low
delays_low (k ∷ ks) bs low = omega (arith, delays_low ks bs low)

all_low : (ks : List ℕ) (bs : List Binding) → bindings_height (bindings_of bs) ≤ 100 → bindings_height (bindings_of (map product ks ++ bs)) ≤ 100
all_low [] bs low = low
all_low (k ∷ ks) bs low = omega (arith, all_low ks bs low)

ends_low : (taps : ℕ) → bindings_height (bindings_of (sum taps ∷ taken_over ∷ [])) ≤ 100
ends_low taps = omega (arith, products_low (range_with_len 0 (taps - 1)))

filter_low : (taps : ℕ) → bindings_height (bindings_of (filter taps)) ≤ 100
filter_low taps =
    let ends : List Binding = sum taps ∷ taken_over ∷ [] in
    let later : List Binding = map product (range_with_len 0 taps) ++ ends in
    let low : bindings_height (bindings_of (map delay (range_with_len 0 (taps - 1)) ++ later)) ≤ 100 =
    delays_low (range_with_len 0 (taps - 1)) later (all_low (range_with_len 0 taps) ends (ends_low taps)) in
    omega (arith, low)

pub made_low : (taps : ℕ) → tree_height (make_tree taps) ≤ NESTING
made_low taps = omega (arith, filter_low taps)
