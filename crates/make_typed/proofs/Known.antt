-- Each name of a filter is known where it stands, and none is declared twice.
use Rattle.std.specs.Prelude.{◌≡◌, ℕ, zero, suc, ◌+◌, ◌-◌, ◌<◌, ◌≤◌, Bool, true, not, ◌||◌, List, [], ◌∷◌, ◌++◌, map, codes, refl}
use Rattle.std.specs.List.{range_with_len}
use Rattle.std.proofs.Common.{ap, arith}
use Rattle.std.proofs.lemmas.Bool.{or_right}
use Rattle.chw_base.specs.declared.limits.TheConstants.{WRITTEN_VECTOR}
use Rattle.chw_grammar.specs.declared.term_tree.Binding.{Binding}
use Rattle.chw_grammar.specs.TermView.{bindings_of, terms_of}
use Rattle.chw_names.specs.Twices.{bindings_twices, term_twices, terms_twices}
use Rattle.chw_names.specs.Unknowns.{bindings_unknowns, name_unknowns, term_unknowns, terms_unknowns, type_unknowns}
use Rattle.chw_names.specs.Words.{when}
use Rattle.name_tables.specs.Names.{is_among}
use Rattle.make_text.specs.MakeTree.{delay, filter, later_product, main_term, product, product_name, products, sum, taken_over, tap_name, times, word}
use Rattle.make_typed.proofs.Apart.{filter_once}
use Rattle.make_typed.proofs.Filter.{Each, filter_has}
use Rattle.make_typed.proofs.Globals.{globals}
use Rattle.make_typed.proofs.Scope.{input_in_scope, last_in_scope, product_in_scope, scope, sum_in_scope, tap_in_scope}

-- a definition or a primitive is known whatever is in scope
defined_known : (values : List (List ℕ)) (name : List ℕ) → is_among globals.definitions name ≡ true → name_unknowns globals values (word name) ≡ []
defined_known values name h =
    ap (λ (b : Bool). when (not b) (word name)) (or_right (is_among values name) (is_among globals.definitions name) h)

variable_known : (values : List (List ℕ)) (name : List ℕ) → is_among values name ≡ true → name_unknowns globals values (word name) ≡ []
variable_known values name h = ap (λ (b : Bool). when (not (b || is_among globals.definitions name)) (word name)) h

abbrev IsKnown : ℕ → Binding → Type 0
IsKnown taps b = (type_unknowns globals [] b.ty ≡ []) × (term_unknowns globals [] (scope taps) b.term ≡ [])

times_known : (taps k : ℕ) → term_unknowns globals [] (scope taps) (times k) ≡ []
times_known taps k = let mul = defined_known (codes "v" ∷ scope taps) (codes "mulU") refl in λ i. mul i ++ []

delay_known : (taps k : ℕ) → k + 1 < taps → term_unknowns globals [] (scope taps) (delay k).term ≡ []
delay_known taps k small =
    let register = defined_known (scope taps) (codes "register") refl in
    let tap = variable_known (scope taps) (tap_name k) (tap_in_scope taps k (omega arith)) in
    λ i. register i ++ (tap i ++ [])

product_known : (taps k : ℕ) → k < taps → term_unknowns globals [] (scope taps) (product k).term ≡ []
product_known taps k small =
    let fmap = defined_known (scope taps) (codes "fmap") refl in
    let tap = variable_known (scope taps) (tap_name k) (tap_in_scope taps k small) in
    let multiplied = times_known taps (k + 1) in
    λ i. fmap i ++ (multiplied i ++ (tap i ++ []))

later_known : (taps a n : ℕ) → a + n < taps → terms_unknowns globals [] (scope taps) (terms_of (map later_product (range_with_len a n))) ≡ []
later_known taps a zero small = refl
later_known taps a (suc n) small =
    let one = variable_known (scope taps) (product_name (a + 1)) (product_in_scope taps (a + 1) (omega arith)) in
    let more = later_known taps (a + 1) n (omega arith) in
    λ i. one i ++ more i

products_known : (taps : ℕ) → 1 ≤ taps → terms_unknowns globals [] (scope taps) (terms_of (products taps)) ≡ []
products_known taps some =
    let one = variable_known (scope taps) (product_name 0) (product_in_scope taps 0 (omega arith)) in
    let more = later_known taps 0 (taps - 1) (omega arith) in
    λ i. one i ++ more i

sum_known : (taps : ℕ) → 1 ≤ taps → term_unknowns globals [] (scope taps) (sum taps).term ≡ []
sum_known taps some =
    let fold = defined_known (scope taps) (codes "vfoldlC") refl in
    let plus = defined_known (scope taps) (codes "plus") refl in
    let pure = defined_known (scope taps) (codes "pure") refl in
    let all = products_known taps some in
    λ i. fold i ++ (plus i ++ ((pure i ++ []) ++ (all i ++ [])))

taken_known : (taps : ℕ) → term_unknowns globals [] (scope taps) taken_over.term ≡ []
taken_known taps =
    let register = defined_known (scope taps) (codes "register") refl in
    let cross = defined_known (scope taps) (codes "unsafeSynchronizer") refl in
    let total = variable_known (scope taps) (codes "y") (sum_in_scope taps) in
    λ i. register i ++ ((cross i ++ (total i ++ [])) ++ [])

each_known : (taps : ℕ) → 1 ≤ taps → Each (IsKnown taps) (filter taps)
each_known taps some =
    filter_has (IsKnown taps) taps (refl, variable_known (scope taps) (codes "x") (input_in_scope taps)) (λ k small. (refl, delay_known taps k small))
    (λ k small. (refl, product_known taps k small)) (refl, sum_known taps some) (refl, taken_known taps)

bindings_known : (taps : ℕ) (bs : List Binding) → Each (IsKnown taps) bs → bindings_unknowns globals [] (scope taps) (bindings_of bs) ≡ []
bindings_known taps [] each = refl
bindings_known taps (b ∷ bs) each =
    let type = each.0.0 in
    let term = each.0.1 in
    let more = bindings_known taps bs each.1 in
    λ i. (type i ++ term i) ++ more i

pub main_known : (taps : ℕ) → 1 ≤ taps → term_unknowns globals [] [] (main_term taps) ≡ []
unfolding scope
main_known taps some =
    let all = bindings_known taps (filter taps) (each_known taps some) in
    let last = variable_known (scope taps) (codes "z") (last_in_scope taps) in
    λ i. all i ++ last i

-- names that are declared twice

abbrev IsOnce : Binding → Type 0
IsOnce b = term_twices b.term ≡ []

later_once : (ks : List ℕ) → terms_twices (terms_of (map later_product ks)) ≡ []
later_once [] = refl
later_once (k ∷ ks) = later_once ks

sum_once : (taps : ℕ) → term_twices (sum taps).term ≡ []
sum_once taps = let all = later_once (range_with_len 0 (taps - 1)) in λ i. all i ++ []

bindings_once : (bs : List Binding) → Each IsOnce bs → bindings_twices (bindings_of bs) ≡ []
bindings_once [] each = refl
bindings_once (b ∷ bs) each = let more = bindings_once bs each.1 in λ i. each.0 i ++ more i

pub main_once : (taps : ℕ) → taps ≤ WRITTEN_VECTOR → term_twices (main_term taps) ≡ []
main_once taps few =
    let names = filter_once taps few in
    let all = bindings_once (filter taps) (filter_has IsOnce taps refl (λ k small. refl) (λ k small. refl) (sum_once taps) refl) in
    λ i. (names i ++ all i) ++ []
