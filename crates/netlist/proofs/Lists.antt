-- Elements of lists after a push, and the places of cells.
use Rattle.std.proofs.Common.{◌≡◌, ℕ, ◌<◌, ◌⊎◌, inl, inr, List, [], ◌∷◌, ◌++◌, length, get_or, sym, ap, arith, Some, None, option_and_then}
use Rattle.std.proofs.lemmas.Bool.{cases_lt}
use Rattle.std.proofs.lemmas.List.{get_or_append_left, get_or_push, length_push}
use Rattle.std.proofs.lemmas.Option.{slice_get_past}
use Rattle.netlist.specs.Feeds.{target, target_at}
use Rattle.netlist.specs.declared.net.Cell.{Cell}

-- an element after a push: one of those before, or the new one
pub push_split : {X : Type 0} (xs : List X) (y : X) (k : ℕ) (d : X) → k < length (xs ++ y ∷ [])
    → ((k < length xs) × (get_or (xs ++ y ∷ []) k d ≡ get_or xs k d)) ⊎ ((k ≡ length xs) × (get_or (xs ++ y ∷ []) k d ≡ y))
push_split xs y k d l = elim (cases_lt k (length xs)) [
  | inl h ↦ inl (h, get_or_append_left xs (y ∷ []) d k h)
  | inr h ↦ let e : k ≡ length xs = omega (arith, length_push xs y) in inr (e, get_or_push xs y d k (sym e))
]

-- the place of a cell that drives a wire
pub target_within : (cells : List Cell) (p w : ℕ) → target_at cells p ≡ Some w → p < length cells
target_within cells p w e = elim (cases_lt p (length cells)) [
  | inl h ↦ h
  | inr h ↦ let none : target_at cells p ≡ None = ap (λ o. option_and_then target o) (slice_get_past cells p h) in absurd (cc)
]
