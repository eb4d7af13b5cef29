-- There is an order of modules, by induction along uses.
use Rattle.std.proofs.Common.{◌≡◌, ℕ, zero, suc, ◌<◌, Bool, true, false, arith, List, [], ◌∷◌, ◌++◌, length, Some, refl}
use Rattle.std.specs.List.{slice_get, AllByRecursion}
use Rattle.chw_types.specs.declared.declarations.Data.{Data}
use Rattle.chw_terms.specs.declared.scene.Made.{Made}
use Rattle.normal_forms.specs.Uses.{Uses, IsAcyclic}
use Rattle.net_built.specs.Modules.{made_in, holds, HasOutputs, Visited, already, without_outputs, behind_its_uses, AllVisited, none_visited, visited_and, IsOrderOfModules}
use Rattle.net_ready.proofs.MadeUsed.{all_along, all_append, all_named, made_there, place, place_falls}

module _ (datas : List Data) (state : List Made) where
  -- the numbers are those of made definitions that are there
  abbrev pub AreThere : List ℕ → Type 0
  AreThere order = AllByRecursion (λ m. m < length state) order

  -- a longer order in which this one is, if it has an output
  abbrev Visit : List ℕ → ℕ → Type 0
  Visit order m = (longer : List ℕ) × Visited datas state order m longer × AreThere longer

  -- behind any order
  abbrev CanVisit : ℕ → Type 0
  CanVisit m = (order : List ℕ) → AreThere order → Visit order m

  visit_each : (order ms : List ℕ) → AllByRecursion CanVisit ms → AreThere order → (longer : List ℕ) × AllVisited datas state order ms longer × AreThere longer
  visit_each order [] each h = (order, none_visited, h)
  visit_each order (m ∷ ms) each h =
      let first = each.0 order h in
      let rest = visit_each first.0 ms each.1 first.2 in
      (rest.0, visited_and first.1 rest.1, rest.2)

  with_outputs : (order : List ℕ) (m : ℕ) (it : Made) (count : ℕ) → m < length state → AreThere order → holds order m ≡ false → slice_get state m ≡ Some it → HasOutputs datas it count → AllByRecursion CanVisit (made_in it.body) → Visit order m
  with_outputs order m it zero l h e is has each = (order, without_outputs e is has, h)
  with_outputs order m it (suc count) l h e is has each =
      let all = visit_each order (made_in it.body) each h in
      (all.0 ++ m ∷ [], behind_its_uses e is has all.1, all_append (λ m. m < length state) all.0 (m ∷ []) all.2 (l, tt))

  module _ (none : IsAcyclic state) (there : (m n : ℕ) → Uses state m n → n < length state)
      (outputs : (m : ℕ) (it : Made) → slice_get state m ≡ Some it → (count : ℕ) × HasOutputs datas it count) where
    held_or_not : (order : List ℕ) (m : ℕ) (it : Made) (b : Bool) → holds order m ≡ b → m < length state → AreThere order → slice_get state m ≡ Some it → AllByRecursion CanVisit (made_in it.body) → Visit order m
    held_or_not order m it true e l h is each = (order, already e, h)
    held_or_not order m it false e l h is each =
        let has = outputs m it is in
        with_outputs order m it has.0 l h e is has.1 each

    visit : (k m : ℕ) → place state none there m < k → m < length state → CanVisit m
    visit zero m f l order h = absurd (omega (arith, f))
    visit (suc k) m f l order h =
        let found = made_there state m l in
        let it : Made = found.0 in
        held_or_not order m it (holds order m) refl l h found.1
        (all_along (λ n named.
        let falls = place_falls state none there m n it found.1 named in
        let lower : place state none there n < place state none there m = falls.1 in
        visit k n (omega (arith, f, lower)) falls.0) (made_in it.body) (all_named it.body))

    pub order_there : 0 < length state → (order : List ℕ) × IsOrderOfModules datas state order × AreThere order
    order_there l =
        let top = made_there state 0 l in
        let each : AllByRecursion CanVisit (made_in top.0.body) =
        all_along (λ n named.
        let falls = place_falls state none there 0 n top.0 top.1 named in
        visit (suc (place state none there n)) n (omega arith) falls.0) (made_in top.0.body) (all_named top.0.body) in
        let all = visit_each [] (made_in top.0.body) each tt in
        (all.0 ++ 0 ∷ [], record { top = top.0; is_top = top.1; below = all.0; visited = all.1; whole = refl }, all_append (λ m. m < length state) all.0 (0 ∷ []) all.2 (l, tt))
