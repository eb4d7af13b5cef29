-- Cells that write their items one after another.
use Rattle.std.proofs.Common.{◌≡◌, ◌≢◌, ℕ, suc, zero, ◌+◌, ◌<◌, ◌≤◌, Bool, List, length, map, set, Some, slice_get, ◌⊎◌, inl, inr, refl, sym, ap, subst, ◌∙◌, arith, add-one}
use Rattle.std.specs.Prelude.{slice_index, slice_index_or}
use Rattle.std.proofs.lemmas.Bool.{cases_lt}
use Rattle.std.proofs.lemmas.List.{get_or-set_other, get_or-set_same}
use Rattle.netlist.specs.Feeds.{target}
use Rattle.netlist.specs.NetValue.{HasCell}
use Rattle.netlist.specs.Sound.{FitsCell, Sound}
use Rattle.netlist.specs.declared.net.Cell.{Cell}
use Rattle.netlist.specs.declared.net.Flat.{Flat}
use Rattle.net_sim.specs.Ticking.{IsKeeperOf, ListsKeepers, behind, Writes, WrittenBefore}
use Rattle.net_sim.proofs.Cells.{cell_fits, driven_once, target_there}

-- before the first cell nothing is written
pub nothing_written : (X : Type 0) (none : X) (Kind : Cell → Type 0) (made : ℕ → Cell → X → X) (flat : Flat) (old : List X)
    → WrittenBefore X none Kind made flat old old 0
nothing_written X none Kind made flat old =
    record { items = λ j w cell lt at is t. absurd (omega arith); others = λ w free. refl }

pub written_more : (X : Type 0) (none : X) (Kind : Cell → Type 0) (made : ℕ → Cell → X → X) (flat : Flat) (old now new : List X) (i : ℕ) (cell : Cell)
    → Sound flat → Kind cell ⊎ (Kind cell → ⊥) → (Kind cell → (w : ℕ) × (target cell ≡ Some w) × (w < length now))
    → slice_get flat.cells i ≡ Some cell → WrittenBefore X none Kind made flat old now i → Writes X none Kind made cell now new
    → WrittenBefore X none Kind made flat old new (i + 1)
written_more X none Kind made flat old now new i cell sound kind there at before writes = from kind
  where
    -- a wire driven at an earlier place is another
    apart : (j v w : ℕ) (other : Cell) → j < i → slice_get flat.cells j ≡ Some other → target other ≡ Some v → target cell ≡ Some w → v ≢ w
    apart j v w other less at' t' t = λ e.
        let is = (driven_once flat sound).once j i w (target_there flat j w other at' (t' ∙ ap Some e)) (target_there flat i w cell at t) in
        omega arith

    from : Kind cell ⊎ (Kind cell → ⊥) → WrittenBefore X none Kind made flat old new (i + 1)
    from (inr other_kind) =
        let is = writes.stays other_kind in
        record {
          items = λ j v other le at' is' t'. subst (λ l. slice_index_or l v none ≡ made v other (slice_index_or old v none)) (sym is) (earlier (cases_lt j i) v other le at' is' t');
          others = λ w free. ap (λ l. slice_index_or l w none) is ∙ before.others w (λ j other less at' is' t'. free j other (omega arith) at' is' t');
        }
      where
        earlier : {j : ℕ} → (j < i) ⊎ (i ≤ j) → (v : ℕ) (other : Cell) → j < i + 1 → slice_get flat.cells j ≡ Some other → Kind other
            → target other ≡ Some v → slice_index_or now v none ≡ made v other (slice_index_or old v none)
        earlier {j = j} (inl less) v other le at' is' t' = before.items j v other less at' is' t'
        earlier {j = j} (inr more) v other le at' is' t' =
            let place : j ≡ i = omega arith in
            let same = ap (slice_get flat.cells) place in
            let cell_is : other ≡ cell = cc in
            absurd (other_kind (subst Kind cell_is is'))
    from (inl own) =
        let to = there own in
        let w = to.0 in
        let item = made w cell (slice_index_or now w none) in
        let is = writes.item own w to.1 in
        let untouched : slice_index_or now w none ≡ slice_index_or old w none =
        before.others w (λ j other less at' is' t'. apart j w w other less at' t' to.1 refl) in
        record {
          items = λ j v other le at' is' t'.
              subst (λ l. slice_index_or l v none ≡ made v other (slice_index_or old v none)) (sym is)
              (here w item to.1 to.2 (ap (made w cell) untouched) (cases_lt j i) v other le at' is' t');
          others = λ v free.
              ap (λ l. slice_index_or l v none) is
              ∙ get_or-set_other now w v item none (λ e. free i cell (omega arith) at own (to.1 ∙ ap Some (sym e)))
              ∙ before.others v (λ j other less at' is' t'. free j other (omega arith) at' is' t');
        }
      where
        here : {j : ℕ} (w : ℕ) (item : X) → target cell ≡ Some w → w < length now → item ≡ made w cell (slice_index_or old w none)
            → (j < i) ⊎ (i ≤ j) → (v : ℕ) (other : Cell) → j < i + 1 → slice_get flat.cells j ≡ Some other → Kind other
            → target other ≡ Some v → slice_index_or (set now w item) v none ≡ made v other (slice_index_or old v none)
        here {j = j} w item t lt is (inl less) v other le at' is' t' =
            get_or-set_other now w v item none (apart j v w other less at' t' t) ∙ before.items j v other less at' is' t'
        here {j = j} w item t lt is (inr more) v other le at' is' t' =
            let place : j ≡ i = omega arith in
            let same = ap (slice_get flat.cells) place in
            let cell_is : cell ≡ other = cc in
            let t'' : target cell ≡ Some v = ap target cell_is ∙ t' in
            let w_is : w ≡ v = cc in
            ap (λ n. slice_index_or (set now w item) n none) (sym w_is) ∙ get_or-set_same now w item none lt ∙ is
            ∙ ap (λ c. made w c (slice_index_or old w none)) cell_is ∙ ap (λ n. made n other (slice_index_or old n none)) w_is

-- the cells of a net are as the wires of its table need
pub fits_table : (flat : Flat) (table : List (List Bool)) (cell : Cell) → Sound flat → map length table ≡ flat.widths → HasCell flat cell
    → (domains : ℕ) × FitsCell domains (map length table) cell
fits_table flat table cell sound widths has =
    (length flat.ports.domains, subst (λ ws. FitsCell (length flat.ports.domains) ws cell) (sym widths) (cell_fits flat cell sound has))

-- places at which no cell is of the kind may be passed over
pub written_skip : (X : Type 0) (none : X) (Kind : Cell → Type 0) (made : ℕ → Cell → X → X) (flat : Flat) (old now : List X) (i j : ℕ) → i ≤ j
    → ((p : ℕ) (cell : Cell) → i ≤ p → p < j → slice_get flat.cells p ≡ Some cell → Kind cell → ⊥)
    → WrittenBefore X none Kind made flat old now i → WrittenBefore X none Kind made flat old now j
written_skip X none Kind made flat old now i j le empty before = record {
  items = λ p w cell lt at is t. from p w cell lt at is t (cases_lt p i);
  others = λ w free. before.others w (λ p cell lt at is t. free p cell (omega arith) at is t);
}
  where
    from : (p w : ℕ) (cell : Cell) → p < j → slice_get flat.cells p ≡ Some cell → Kind cell → target cell ≡ Some w → (p < i) ⊎ (i ≤ p)
        → slice_index_or now w none ≡ made w cell (slice_index_or old w none)
    from p w cell lt at is t (inl less) = before.items p w cell less at is t
    from p w cell lt at is t (inr more) = absurd (empty p cell more lt at is)

-- one place of a domain's list further
pub listed_more : (X : Type 0) (none : X) (Kind : Cell → Type 0) (made : ℕ → Cell → X → X) (flat : Flat) (number : ℕ) (places : List ℕ)
    (old now new : List X) (k : ℕ) (cell : Cell) → Sound flat → ListsKeepers flat number places (length flat.cells)
    → ((cell : Cell) → Kind cell → IsKeeperOf number cell) → k < length places
    → Kind cell ⊎ (Kind cell → ⊥) → (Kind cell → (w : ℕ) × (target cell ≡ Some w) × (w < length now))
    → slice_get flat.cells (slice_index places k) ≡ Some cell → WrittenBefore X none Kind made flat old now (behind places k)
    → Writes X none Kind made cell now new → WrittenBefore X none Kind made flat old new (behind places (k + 1))
listed_more X none Kind made flat number places old now new k cell sound lists keeps lt kind there at before writes =
    subst (λ n. WrittenBefore X none Kind made flat old new (behind places n)) (sym (add-one k))
    (written_more X none Kind made flat old now new (slice_index places k) cell sound kind there at
    (written_skip X none Kind made flat old now (behind places k) (slice_index places k) (lists.rising k lt)
    (λ p other le less at' is.
    let whole = lists.within k lt in
    lists.others k p other (omega arith) le (λ _. less) (omega arith) at' (keeps other is)) before) writes)

-- behind the last place of the list
pub listed_all : (X : Type 0) (none : X) (Kind : Cell → Type 0) (made : ℕ → Cell → X → X) (flat : Flat) (number : ℕ) (places : List ℕ)
    (old now : List X) (k : ℕ) → ListsKeepers flat number places (length flat.cells) → ((cell : Cell) → Kind cell → IsKeeperOf number cell)
    → k ≡ length places → behind places k ≤ length flat.cells
    → WrittenBefore X none Kind made flat old now (behind places k) → WrittenBefore X none Kind made flat old now (length flat.cells)
listed_all X none Kind made flat number places old now k lists keeps all le before =
    written_skip X none Kind made flat old now (behind places k) (length flat.cells) le
    (λ p other more less at is. lists.others k p other (omega arith) more (λ lt. absurd (omega (arith, lt))) less at (keeps other is)) before

-- the place behind some of the list is within the limit
pub behind_within : (flat : Flat) (number : ℕ) (places : List ℕ) (limit k : ℕ) → ListsKeepers flat number places limit → k ≤ length places
    → behind places k ≤ limit
behind_within flat number places limit zero lists le = omega arith
behind_within flat number places limit (suc k) lists le = omega (arith, lists.within k (omega arith))
