-- Each wire is equal to one that copies no other.
use Rattle.std.proofs.Common.{◌≡◌, ℕ, zero, suc, ◌+◌, ◌<◌, ◌≤◌, ◌⊎◌, inl, inr, Bool, true, false, not, MatchBool, List, [], ◌∷◌, length, Some, None, slice_get, sym, ap, subst, ◌∙◌, arith}
use Rattle.std.specs.Prelude.{option_and_then, option_map, slice_index}
use Rattle.std.specs.List.{AllByRecursion}
use Rattle.std.proofs.lemmas.Bool.{cases_Bool, cases_lt}
use Rattle.chw_base.specs.declared.index.WireId.{WireId}
use Rattle.netlist.specs.Feeds.{awaited_at, awaited_wire, target, target_at}
use Rattle.netlist.specs.Orders.{OrdersCells}
use Rattle.netlist.specs.Sound.{FitsCell, IsWire, Sound}
use Rattle.netlist.specs.Wires.{read_by}
use Rattle.netlist.specs.declared.net.Cell.{Cell}
use Rattle.netlist.specs.declared.net.Cell.TheVariants.{Reg, Ram}
use Rattle.netlist.specs.declared.net.Flat.{Flat}
use Rattle.netlist.proofs.Driven.{each_driven_once, target_in_order, target_is_wire}
use Rattle.netlist.proofs.Lengths.{fits_cell}
use Rattle.netlist.proofs.Lists.{target_within}
use Rattle.netlist.proofs.Places.{cell_there}
use Rattle.net_sim.proofs.Cells.{drives_no_input, reads_wires, same_cell}
use Rattle.share_laws.specs.Same.{Copies, Same}
use Rattle.share_laws.specs.Same.Same.{chained, copied, itself, turned}
use Rattle.share_laws.specs.Shares.{IsProper}
use Rattle.share_laws.specs.Shares.IsProper.{of_cell, of_input}
use Rattle.wire_classes.specs.Classes.{AreClasses}
use Rattle.wire_classes.specs.declared.classes.Classes.{Classes}
use Rattle.net_share.specs.Copying.{Drives, is_copy}
use Rattle.net_share.proofs.Copies.{Copied, copied_if, no_copy_if}

-- what a cell waits for is one of the wires that it reads
awaited_within : (widths : List ℕ) (wires : List WireId) (k n : ℕ) → AllByRecursion (IsWire widths) wires
    → option_map (λ (w : WireId). w.number) (slice_get wires k) ≡ Some n → n < length widths
awaited_within widths [] k n all e = absurd (let none : None ≡ Some n = e in cc)
awaited_within widths (w ∷ wires) zero n all e = let is : w.number ≡ n = cc in subst (λ m. m < length widths) is all.0
awaited_within widths (w ∷ wires) (suc k) n all e = awaited_within widths wires k n all.1 e

awaited_exists : (widths : List ℕ) (cell : Cell) (k n : ℕ) → AllByRecursion (IsWire widths) (read_by cell) → awaited_wire cell k ≡ Some n
    → n < length widths
awaited_exists widths (Reg w domain initial a) k n all e = absurd (let none : None ≡ Some n = e in cc)
awaited_exists widths (Ram w domain words inputs) k n all e = absurd (let none : None ≡ Some n = e in cc)
awaited_exists widths cell k n all e = awaited_within widths (read_by cell) k n all e

module _ (flat : Flat) (sound : Sound flat) where
  pub proper_within : (w : ℕ) → IsProper flat w → w < length flat.widths
  proper_within w (of_input l) = omega (arith, l, sound.all)
  proper_within w (of_cell cell has t none) = target_is_wire flat sound has.0 w (ap (λ o. option_and_then target o) has.1 ∙ t)

  -- a cell that drives a proper wire copies nothing
  pub proper_copies : (w a : ℕ) (cell : Cell) → IsProper flat w → Drives flat w cell → Copies flat cell a → ⊥
  proper_copies w a cell (of_input l) d copies = drives_no_input flat w cell sound d.has d.wire l
  proper_copies w a cell (of_cell own there u none) d copies =
      let is : cell ≡ own = same_cell flat w cell own sound d.has d.wire there u in
      none a (subst (λ x. Copies flat x a) is copies)

  -- the cell at the place of a wire drives it
  pub drives_at : (w place : ℕ) (cell : Cell) → w ≡ length flat.ports.inputs + place → slice_get flat.cells place ≡ Some cell → place < length flat.cells
      → Drives flat w cell
  drives_at w place cell is at l = record {
    has = (place, at);
    wire = sym (ap (λ o. option_and_then target o) at) ∙ target_in_order (length flat.ports.inputs) flat.cells sound.in_order place l ∙ ap Some (sym is);
  }

  module _ (c : Classes) (are : AreClasses flat c) where
    -- the classes tell whether a wire is proper
    pub tells_proper : (widths : List ℕ) (w : ℕ) (cell : Cell) (r : Bool) → widths ≡ flat.widths → Drives flat w cell → r ≡ is_copy widths c cell
        → MatchBool (not r) (IsProper flat w) (IsProper flat w → ⊥)
    tells_proper widths w cell r long d e = by r (e ∙ ap (λ ws. is_copy ws c cell) long)
      where
        fits : FitsCell (length flat.ports.domains) flat.widths cell
        fits = fits_cell flat cell sound d.has

        by : (r : Bool) → r ≡ is_copy flat.widths c cell → MatchBool (not r) (IsProper flat w) (IsProper flat w → ⊥)
        by true e = λ proper. let found = copied_if flat c are cell fits (sym e) in proper_copies w found.from cell proper d found.copies
        by false e = of_cell cell d.has d.wire (λ a copies. no_copy_if flat c are cell fits (sym e) a copies)

    module _ (places : List ℕ) (order : OrdersCells flat.cells places) where
      abbrev SomeProper : ℕ → Type 0
      SomeProper w = (p : ℕ) × IsProper flat p × Same flat p w

      abbrev Here : ℕ → ℕ → Type 0
      Here w i = (i < length places) × (target_at flat.cells (slice_index places i) ≡ Some w)

      by_copy : (w : ℕ) (cell : Cell) → Drives flat w cell → (found : Copied flat cell) → SomeProper found.from → SomeProper w
      by_copy w cell d found rest =
          let equal : Same flat w found.from = copied cell w found.from d.has d.wire found.copies in
          (rest.0, rest.1, chained rest.0 found.from w rest.2 (turned w found.from equal))

      led : (n i w : ℕ) → i < n → Here w i → SomeProper w
      led zero i w l here = absurd (omega (arith, l))
      led (suc n) i w l here = from (λ j a m there. led n j a m there) there.0 there.1 drives (cases_Bool (is_copy flat.widths c there.0))
        where
          there : (cell : Cell) × (slice_get flat.cells (slice_index places i) ≡ Some cell) × (target cell ≡ Some w)
          there = cell_there flat.cells (slice_index places i) w here.1

          drives : Drives flat w there.0
          drives = record { has = (slice_index places i, there.1); wire = there.2 }

          onwards : ((j a : ℕ) → j < n → Here a j → SomeProper a) → (cell : Cell) → slice_get flat.cells (slice_index places i) ≡ Some cell
              → (found : Copied flat cell) → (found.from < length flat.ports.inputs) ⊎ (length flat.ports.inputs ≤ found.from) → SomeProper found.from
          onwards earlier cell at found (inl m) = (found.from, of_input m, itself found.from (omega (arith, m, sound.all)))
          onwards earlier cell at found (inr m) =
              let fits = fits_cell flat cell sound (slice_index places i, at) in
              let reads = reads_wires (length flat.ports.domains) flat.widths cell fits in
              let within = awaited_exists flat.widths cell found.k found.from reads found.awaits in
              let driven = (each_driven_once flat sound).driven found.from m within in
              let awaits : awaited_at flat.cells (slice_index places i) found.k ≡ Some found.from =
              ap (λ o. option_and_then (λ x. awaited_wire x found.k) o) at ∙ found.awaits in
              let before = order.after i found.k found.from driven.0 here.0 awaits driven.1 in
              let place : Here found.from before.0 =
              (omega (arith, before.1, here.0), ap (λ p. target_at flat.cells p) before.2 ∙ driven.1) in
              earlier before.0 found.from (omega (arith, before.1, l)) place

          from : ((j a : ℕ) → j < n → Here a j → SomeProper a) → (cell : Cell) → slice_get flat.cells (slice_index places i) ≡ Some cell
              → Drives flat w cell → (is_copy flat.widths c cell ≡ true) ⊎ (is_copy flat.widths c cell ≡ false) → SomeProper w
          from earlier cell at d (inl e) =
              let found = copied_if flat c are cell (fits_cell flat cell sound d.has) e in
              by_copy w cell d found (onwards earlier cell at found (cases_lt found.from (length flat.ports.inputs)))
          from earlier cell at d (inr e) = (
            w,
            of_cell cell d.has d.wire (λ a copies. no_copy_if flat c are cell (fits_cell flat cell sound d.has) e a copies),
            itself w (target_is_wire flat sound (slice_index places i) w here.1),
          )

      -- each wire is equal to a proper one
      pub some_proper : (w : ℕ) → w < length flat.widths → (p : ℕ) × IsProper flat p × Same flat p w
      some_proper w l = from (cases_lt w (length flat.ports.inputs))
        where
          from : (w < length flat.ports.inputs) ⊎ (length flat.ports.inputs ≤ w) → SomeProper w
          from (inl m) = (w, of_input m, itself w l)
          from (inr m) =
              let driven = (each_driven_once flat sound).driven w m l in
              let at = order.all driven.0 (target_within flat.cells driven.0 w driven.1) in
              let here : Here w at.0 = (at.1, ap (λ p. target_at flat.cells p) at.2 ∙ driven.1) in
              led (suc at.0) at.0 w (omega arith) here
