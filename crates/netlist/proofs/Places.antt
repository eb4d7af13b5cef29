-- Places of lists, and the cells there.
use Rattle.std.proofs.Common.{◌≡◌, ℕ, zero, suc, ◌<◌, ◌≤◌, List, [], ◌∷◌, length, Some, None, slice_get, get_or, ◌⊎◌, inl, inr, ap, sym, subst, ◌∙◌}
use Rattle.std.specs.Prelude.{option_and_then}
use Rattle.std.specs.List.{AllByRecursion}
use Rattle.std.proofs.lemmas.Option.{slice_get_cases}
use Rattle.netlist.specs.Feeds.{target, target_at}
use Rattle.netlist.specs.declared.net.Cell.{Cell}

-- what holds of all items holds of the one at a place
pub all_at : {X : Type 0} (P : X → Type 0) (xs : List X) (i : ℕ) (x : X) → AllByRecursion P xs → slice_get xs i ≡ Some x → P x
all_at P [] i x h e = absurd (cc)
all_at P (y ∷ xs) zero x h e = let is : y ≡ x = cc in subst P is h.0
all_at P (y ∷ xs) (suc i) x h e = all_at P xs i x h.1 e

-- what stands at a place that drives a wire
pub cell_there : (cells : List Cell) (place w : ℕ) → target_at cells place ≡ Some w → (cell : Cell) × (slice_get cells place ≡ Some cell) × (target cell ≡ Some w)
cell_there cells place w t = found (slice_get_cases cells place).1
  where
    found : ((x : Cell) × (place < length cells) × (slice_get cells place ≡ Some x) × (get_or cells place x ≡ x)) ⊎ ((length cells ≤ place) × (slice_get cells place ≡ None))
        → (cell : Cell) × (slice_get cells place ≡ Some cell) × (target cell ≡ Some w)
    found (inl x) = (x.0, x.2, sym (ap (λ c. option_and_then target c) x.2) ∙ t)
    found (inr e) = absurd (let n : None ≡ Some w = sym (ap (λ c. option_and_then target c) e.1) ∙ t in cc)
