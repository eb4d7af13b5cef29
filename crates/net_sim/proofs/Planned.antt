-- The steps of cells, one after another.
use Rattle.std.proofs.Common.{◌≡◌, ℕ, ◌+◌, ◌<◌, ◌≤◌, List, [], ◌∷◌, ◌++◌, Some, slice_get, ◌⊎◌, inl, inr, refl, sym, ap, subst, ◌∙◌, arith}
use Rattle.std.specs.Prelude.{slice_index, slice_index_or}
use Rattle.std.proofs.lemmas.Bool.{cases_lt}
use Rattle.std.proofs.lemmas.List.{get_or_append_left, get_or_push, length_push}
use Rattle.netlist.specs.declared.net.Cell.{Cell}
use Rattle.netlist.specs.declared.net.Flat.{Flat}
use Rattle.net_sim.specs.Steps.{IsStepOf, StepsBefore}
use Rattle.net_sim.specs.declared.step.Step.{Step}

-- no step
pub steps_none : (flat : Flat) (places : List ℕ) → StepsBefore flat places [] 0
steps_none flat places = record { count = refl; each = λ k none cell lt at. absurd (omega (arith, lt)) }

-- one step more
pub steps_more : (flat : Flat) (places : List ℕ) (steps : List Step) (step : Step) (i : ℕ) (cell : Cell)
    → slice_get flat.cells (slice_index places i) ≡ Some cell → IsStepOf flat.widths cell step
    → StepsBefore flat places steps i → StepsBefore flat places (steps ++ step ∷ []) (i + 1)
steps_more flat places steps step i cell at is before = record {
  count = length_push steps step ∙ ap (λ n. n + 1) before.count;
  each = λ k none other lt at'. from k none other lt at' (cases_lt k i);
}
  where
    from : (k : ℕ) (none : Step) (other : Cell) → k < i + 1 → slice_get flat.cells (slice_index places k) ≡ Some other → (k < i) ⊎ (i ≤ k)
        → IsStepOf flat.widths other (slice_index_or (steps ++ step ∷ []) k none)
    from k none other lt at' (inl less) =
        subst (IsStepOf flat.widths other) (sym (get_or_append_left steps (step ∷ []) none k (omega (arith, before.count))))
        (before.each k none other less at')
    from k none other lt at' (inr more) =
        let place : k ≡ i = omega arith in
        let same = ap (λ n. slice_get flat.cells (slice_index places n)) place in
        let cell_is : cell ≡ other = cc in
        let here : slice_index_or (steps ++ step ∷ []) k none ≡ step = get_or_push steps step none k (before.count ∙ sym place) in
        subst (IsStepOf flat.widths other) (sym here) (subst (λ c. IsStepOf flat.widths c step) cell_is is)
