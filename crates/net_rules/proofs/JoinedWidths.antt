-- The width of wires side by side, one after the other.
use Rattle.std.proofs.Common.{◌≡◌, ℕ, ◌+◌, ◌<◌, ◌≤◌, List, [], ◌∷◌, ◌++◌, length, get_or, take, Some, sym, ap, subst, arith, Fits, w32}
use Rattle.std.specs.Prelude.{slice_get, slice_index}
use Rattle.std.specs.List.{sum_by, AllByRecursion}
use Rattle.std.proofs.lemmas.List.{take_more}
use Rattle.std.proofs.lemmas.List.Sums.{sum_by-append}
use Rattle.std.proofs.lemmas.Option.{slice_get_within, get_or_from_slice_get}
use Rattle.chw_base.specs.declared.index.WireId.{WireId}
use Rattle.netlist.specs.Sound.{IsWire, width_of_all}
use Rattle.netlist.proofs.Chains.{all_and_one}

-- one more exists
pub exist_more : (widths : List ℕ) (parts : List WireId) (i n : ℕ) (d : WireId) → i < length parts → AllByRecursion (IsWire widths) (take i parts)
    → slice_get widths (get_or parts i d).number ≡ Some n → AllByRecursion (IsWire widths) (take (i + 1) parts)
exist_more widths parts i n d l all e =
    subst (AllByRecursion (IsWire widths)) (sym (take_more parts i d l))
    (all_and_one (IsWire widths) (take i parts) (get_or parts i d) all (slice_get_within widths _ n e))

-- one more is added
pub width_more : (widths : List ℕ) (parts : List WireId) (i n t : ℕ) (d : WireId) → i < length parts → t ≡ width_of_all widths (take i parts)
    → slice_get widths (get_or parts i d).number ≡ Some n → t + n ≡ width_of_all widths (take (i + 1) parts)
width_more widths parts i n t d l is e =
    let w = get_or parts i d in
    let f : WireId → ℕ = λ w. slice_index widths w.number in
    let one : slice_index widths w.number ≡ n = get_or_from_slice_get widths w.number n 0 e in
    let all : width_of_all widths (take (i + 1) parts) ≡ sum_by f (take i parts ++ w ∷ []) = ap (width_of_all widths) (take_more parts i d l) in
    let split : sum_by f (take i parts ++ w ∷ []) ≡ sum_by f (take i parts) + sum_by f (w ∷ []) = sum_by-append f (take i parts) (w ∷ []) in
    omega (arith, one, all, split, is)

-- the width of a wire fits
pub width_fits : (widths : List ℕ) (k n : ℕ) → ((i : ℕ) → Fits w32 (get_or widths i 0)) → slice_get widths k ≡ Some n → n ≤ 4294967295
width_fits widths k n fits e =
    let one : get_or widths k 0 ≡ n = get_or_from_slice_get widths k n 0 e in
    let f = fits k in
    omega (arith, one, f)
