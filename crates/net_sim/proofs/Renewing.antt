-- Cells that settle their wires along an order.
use Rattle.std.proofs.Common.{◌≡◌, ◌≢◌, ℕ, suc, ◌+◌, ◌<◌, ◌≤◌, Bool, List, [], ◌∷◌, length, map, set, Some, slice_get, ◌⊎◌, inl, inr, refl, sym, ap, subst, ◌∙◌, arith}
use Rattle.std.specs.Prelude.{slice_index}
use Rattle.std.proofs.lemmas.Bool.{cases_lt}
use Rattle.std.proofs.lemmas.List.{get_or-set_other, get_or-set_same, length-map}
use Rattle.std.proofs.lemmas.Option.{slice_get_within}
use Rattle.chw_base.specs.declared.index.WireId.{WireId}
use Rattle.netlist.specs.Feeds.{target, target_at}
use Rattle.netlist.specs.NetValue.{HasCell}
use Rattle.netlist.specs.Operators.{KeepsNothing, operator}
use Rattle.netlist.specs.Orders.{IsOrder}
use Rattle.netlist.specs.Sound.{FitsCell, Sound}
use Rattle.netlist.specs.Wires.{read_by}
use Rattle.netlist.specs.declared.net.Cell.{Cell}
use Rattle.netlist.specs.declared.net.Cell.TheVariants.{Const, Copy, Join, Cut, Un, Bin, Mux, Reg, Ram, Use}
use Rattle.netlist.specs.declared.net.Flat.{Flat}
use Rattle.net_sim.specs.Settling.{IsSettledAt, KeepsOthers, Renews, SettledBefore}
use Rattle.net_sim.specs.Tables.{given_in, value_in, values_in}
use Rattle.net_sim.proofs.Cells.{driven_once, drives_no_input, given_width, same_cell, target_there}
use Rattle.net_sim.proofs.Values.{awaited_there}

-- wires other than the one that is written read as before
values_beside : (table : List (List Bool)) (w : ℕ) (bits : List Bool) (wires : List WireId)
    → ((k : ℕ) (v : WireId) → slice_get wires k ≡ Some v → v.number ≢ w)
    → values_in (set table w bits) wires ≡ values_in table wires
values_beside table w bits [] other = refl
values_beside table w bits (v ∷ wires) other =
    ap (λ x. x ∷ values_in (set table w bits) wires) (get_or-set_other table w v.number bits [] (other 0 v refl))
    ∙ ap (λ xs. value_in table v.number ∷ xs) (values_beside table w bits wires (λ k u at. other (suc k) u at))

-- a cell keeps nothing, or something
pub keeps_cases : (cell : Cell) → KeepsNothing cell ⊎ (KeepsNothing cell → ⊥)
keeps_cases (Reg w domain initial a) = inr (λ keeps. keeps)
keeps_cases (Ram w domain words inputs) = inr (λ keeps. keeps)
keeps_cases (Use m reads drives) = inr (λ keeps. keeps)
keeps_cases _ = inl tt

-- a cell that keeps nothing drives a wire
pub has_target : (cell : Cell) → KeepsNothing cell → (w : ℕ) × (target cell ≡ Some w)
has_target (Const w bits) keeps = (w.number, refl)
has_target (Copy w a) keeps = (w.number, refl)
has_target (Join w parts) keeps = (w.number, refl)
has_target (Cut w a high low) keeps = (w.number, refl)
has_target (Un w op a) keeps = (w.number, refl)
has_target (Bin w op a b) keeps = (w.number, refl)
has_target (Mux w c a b) keeps = (w.number, refl)
has_target (Reg w domain initial a) keeps = absurd keeps
has_target (Ram w domain words inputs) keeps = absurd keeps
has_target (Use m reads drives) keeps = absurd keeps

-- no cell at a place or before reads what the cell at that place drives
reads_no_later : (flat : Flat) (places : List ℕ) (i j k w : ℕ) (cell : Cell) (v : WireId) → IsOrder flat places → i < length places
    → j ≤ i → slice_get flat.cells (slice_index places j) ≡ Some cell → KeepsNothing cell → slice_get (read_by cell) k ≡ Some v
    → target_at flat.cells (slice_index places i) ≡ Some w → v.number ≢ w
reads_no_later flat places i j k w cell v order lt le at keeps reads drives same =
    let awaits = awaited_there flat (slice_index places j) k cell v at keeps reads in
    let earlier = order.after j k w (slice_index places i) (omega arith) (awaits ∙ ap Some same) drives in
    let is = order.once earlier.0 i (omega (arith, earlier.1)) lt earlier.2 in
    omega (arith, earlier.1)

-- after the cell at a place has renewed its wire, the cells up to it are settled
settled_up_to : (flat : Flat) (places : List ℕ) (table : List (List Bool)) (i w : ℕ) (cell : Cell) → Sound flat → IsOrder flat places
    → i < length places → slice_get flat.cells (slice_index places i) ≡ Some cell → KeepsNothing cell → target cell ≡ Some w
    → w < length table → ((j : ℕ) → j < i → IsSettledAt flat table (slice_index places j))
    → (j : ℕ) → j < i + 1 → IsSettledAt flat (set table w (given_in table cell)) (slice_index places j)
settled_up_to flat places table i w cell sound order lt at keeps t there before j le = λ other v at' keeps' t'.
    let new = set table w (given_in table cell) in
    let drives = target_there flat (slice_index places i) w cell at t in
    let same : given_in new other ≡ given_in table other =
    ap (operator other) (values_beside table w (given_in table cell) (read_by other)
    (λ k u reads. reads_no_later flat places i j k w other u order lt (omega arith) at' keeps' reads drives)) in
    from (cases_lt j i) other v at' keeps' t' same
  where
    from : (j < i) ⊎ (i ≤ j) → (other : Cell) (v : ℕ) → slice_get flat.cells (slice_index places j) ≡ Some other → KeepsNothing other
        → target other ≡ Some v → given_in (set table w (given_in table cell)) other ≡ given_in table other
        → value_in (set table w (given_in table cell)) v ≡ given_in (set table w (given_in table cell)) other
    from (inl less) other v at' keeps' t' same =
        let apart : v ≢ w = λ e.
        let drives = target_there flat (slice_index places i) w cell at t in
        let drives' = target_there flat (slice_index places j) v other at' t' in
        let is = (driven_once flat sound).once (slice_index places j) (slice_index places i) w (drives' ∙ ap Some e) drives in
        let i_is = order.once j i (omega arith) lt is in
        omega arith in
        get_or-set_other table w v (given_in table cell) [] apart ∙ before j less other v at' keeps' t' ∙ sym same
    from (inr more) other v at' keeps' t' same =
        let is : j ≡ i = omega arith in
        let places_same = ap (λ n. slice_get flat.cells (slice_index places n)) is in
        let cell_is : cell ≡ other = cc in
        let t'' : target cell ≡ Some v = ap target cell_is ∙ t' in
        let w_is : w ≡ v = cc in
        ap (λ n. value_in (set table w (given_in table cell)) n) (sym w_is)
        ∙ get_or-set_same table w (given_in table cell) [] there ∙ ap (given_in table) cell_is ∙ sym same

-- a wire that no renewed cell drives stays
others_stay : (flat : Flat) (old table : List (List Bool)) (w : ℕ) (bits : List Bool) (cell : Cell) → Sound flat → HasCell flat cell
    → KeepsNothing cell → target cell ≡ Some w → KeepsOthers flat old table → KeepsOthers flat old (set table w bits)
others_stay flat old table w bits cell sound has keeps t kept = record {
  inputs = λ v lt.
      get_or-set_other table w v bits [] (λ e. drives_no_input flat w cell sound has t (subst (λ n. n < length flat.ports.inputs) e lt))
      ∙ kept.inputs v lt;
  keepers = λ other v has' no t'.
      get_or-set_other table w v bits [] (λ e. no (subst KeepsNothing (same_cell flat w cell other sound has t has' (t' ∙ ap Some e)) keeps))
      ∙ kept.keepers other v has' no t';
}

pub settled_more : (flat : Flat) (places : List ℕ) (old table new : List (List Bool)) (i : ℕ) (cell : Cell) → Sound flat → IsOrder flat places
    → i < length places → slice_get flat.cells (slice_index places i) ≡ Some cell
    → ((w : ℕ) → target cell ≡ Some w → KeepsNothing cell → w < length table)
    → SettledBefore flat places old table i → Renews cell table new → SettledBefore flat places old new (i + 1)
settled_more flat places old table new i cell sound order lt at there before renews = from (keeps_cases cell)
  where
    from : KeepsNothing cell ⊎ (KeepsNothing cell → ⊥) → SettledBefore flat places old new (i + 1)
    from (inl keeps) =
        let to = has_target cell keeps in
        let is = renews.wire keeps to.0 to.1 in
        record {
          settled = λ j le.
              subst (λ l. IsSettledAt flat l (slice_index places j)) (sym is)
              (settled_up_to flat places table i to.0 cell sound order lt at keeps to.1 (there to.0 to.1 keeps) before.settled j le);
          others =
              subst (KeepsOthers flat old) (sym is)
              (others_stay flat old table to.0 (given_in table cell) cell sound (slice_index places i, at) keeps to.1 before.others);
          widths = renews.widths ∙ before.widths;
        }
    from (inr keeper) =
        let is = renews.stays keeper in
        record {
          settled = λ j le. subst (λ l. IsSettledAt flat l (slice_index places j)) (sym is) (earlier (cases_lt j i) le);
          others = subst (KeepsOthers flat old) (sym is) before.others;
          widths = renews.widths ∙ before.widths;
        }
      where
        earlier : {j : ℕ} → (j < i) ⊎ (i ≤ j) → j < i + 1 → IsSettledAt flat table (slice_index places j)
        earlier {j = j} (inl less) le = before.settled j less
        earlier {j = j} (inr more) le = λ other v at' keeps' t'.
            let is : j ≡ i = omega arith in
            let places_same = ap (λ n. slice_get flat.cells (slice_index places n)) is in
            let cell_is : other ≡ cell = cc in
            absurd (keeper (subst KeepsNothing cell_is keeps'))

-- the wire that a cell drives is there
pub target_within : (table : List (List Bool)) (domains w : ℕ) (cell : Cell) → FitsCell domains (map length table) cell → KeepsNothing cell
    → target cell ≡ Some w → w < length table
target_within table domains w cell fits keeps t =
    let there = slice_get_within (map length table) w (length (given_in table cell)) (given_width table domains w cell fits keeps t) in
    omega (arith, there, length-map table length)
