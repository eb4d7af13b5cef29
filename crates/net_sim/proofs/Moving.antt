-- What registers, RAMs and their memories have after an event.
use Rattle.std.proofs.Common.{◌≡◌, ◌≢◌, ℕ, ◌<◌, ◌==◌, ◌&&◌, Bool, true, false, List, [], length, map, set, ◌⊎◌, inl, inr, sym, ap, subst, ◌∙◌, arith, if◌then◌else◌}
use Rattle.std.specs.Prelude.{nat_lt, slice_index, slice_index_or}
use Rattle.std.proofs.lemmas.Bool.{cases_eq}
use Rattle.std.proofs.lemmas.List.{get_or-set_other, get_or-set_same, length-map, length-set}
use Rattle.chw_bits.specs.Bits.{number_of}
use Rattle.net_sim.specs.Tables.{value_in}
use Rattle.net_sim.specs.Ticking.{MemoriesFit, written_words}
use Rattle.net_sim.proofs.Wiring.{width_at}

-- tables of the same widths have words of one width at each place
pub same_width : (one other : List (List Bool)) (w : ℕ) → map length one ≡ map length other
    → length (value_in one w) ≡ length (value_in other w)
same_width one other w widths = sym (width_at one w) ∙ ap (λ l. slice_index l w) widths ∙ width_at other w

-- a memory whose words have a width
abbrev HasWords : ℕ → List (List Bool) → Type 0
HasWords width memory = (address : ℕ) → address < length memory → length (value_in memory address) ≡ width

set_has_words : (width place : ℕ) (value : List Bool) (memory : List (List Bool)) → length value ≡ width → HasWords width memory
    → HasWords width (set memory place value)
set_has_words width place value memory wide has = λ address lt.
    let within : address < length memory = omega (arith, length-set memory place value, lt) in
    from address within (cases_eq address place)
  where
    from : (address : ℕ) → address < length memory → (address ≡ place) ⊎ (address ≢ place) → length (value_in (set memory place value) address) ≡ width
    from address within (inl e) =
        let inside : place < length memory = omega arith in
        ap (λ n. length (value_in (set memory place value) n)) e ∙ ap length (get_or-set_same memory place value [] inside) ∙ wide
    from address within (inr e) = ap length (get_or-set_other memory place address value [] e) ∙ has address within

written_by : (width place : ℕ) (test : Bool) (value : List Bool) (memory : List (List Bool)) → length value ≡ width → HasWords width memory
    → HasWords width (if test then set memory place value else memory)
written_by width place true value memory wide has = set_has_words width place value memory wide has
written_by width place false value memory wide has = has

-- a write keeps the width of the words
pub written_has_words : (width : ℕ) (enable place value : List Bool) (memory : List (List Bool)) → length value ≡ width → HasWords width memory
    → HasWords width (written_words enable place value memory)
written_has_words width enable place value memory wide has =
    written_by width (number_of place) (number_of enable == 1 && nat_lt (number_of place) (length memory)) value memory wide has

-- memories with another in the place of one still fit
pub memories_written : (table : List (List Bool)) (memories : List (List (List Bool))) (w : ℕ) (memory : List (List Bool)) → w < length memories
    → MemoriesFit table memories → HasWords (length (value_in table w)) memory → MemoriesFit table (set memories w memory)
memories_written table memories w memory lt fit has =
    record { count = length-set memories w memory ∙ fit.count; widths = λ v address within. from v address (cases_eq v w) within }
  where
    from : (v address : ℕ) → (v ≡ w) ⊎ (v ≢ w) → address < length (slice_index_or (set memories w memory) v [])
        → length (value_in (slice_index_or (set memories w memory) v []) address) ≡ length (value_in table v)
    from v address (inl e) within =
        let is : slice_index_or (set memories w memory) v [] ≡ memory =
        ap (λ n. slice_index_or (set memories w memory) n []) e ∙ get_or-set_same memories w memory [] lt in
        ap (λ l. length (value_in l address)) is ∙ has address (subst (λ l. address < length l) is within)
        ∙ ap (λ n. length (value_in table n)) (sym e)
    from v address (inr e) within =
        let is : slice_index_or (set memories w memory) v [] ≡ slice_index_or memories v [] = get_or-set_other memories w v memory [] e in
        ap (λ l. length (value_in l address)) is ∙ fit.widths v address (subst (λ l. address < length l) is within)

-- memories fit each table of the same widths
pub fit_along : (table table' : List (List Bool)) (memories : List (List (List Bool))) → map length table ≡ map length table'
    → MemoriesFit table memories → MemoriesFit table' memories
fit_along table table' memories widths fit = record {
  count = fit.count ∙ sym (length-map table length) ∙ ap length widths ∙ length-map table' length;
  widths = λ w address lt. fit.widths w address lt ∙ same_width table table' w widths;
}
