-- A settled table that stands for a past has the bits of every wire.
use Rattle.std.proofs.Common.{◌≡◌, ℕ, zero, suc, ◌+◌, ◌<◌, ◌≤◌, Bool, List, [], ◌∷◌, length, Some, slice_get, ◌⊎◌, inl, inr, refl, sym, ap, subst, ◌∙◌, arith}
use Rattle.std.specs.Prelude.{option_and_then, option_map, slice_index}
use Rattle.std.proofs.lemmas.Bool.{cases_lt}
use Rattle.std.proofs.lemmas.Option.{slice_get_within}
use Rattle.chw_base.specs.declared.index.WireId.{WireId}
use Rattle.chw_clock.specs.declared.event.Event.{Event}
use Rattle.netlist.proofs.Places.{all_at, cell_there}
use Rattle.netlist.specs.Feeds.{awaited_at, awaited_wire, target, target_at}
use Rattle.netlist.specs.NetValue.{HasCell, NetValue, ReadValues}
use Rattle.netlist.specs.NetValue.NetValue.{input, operated}
use Rattle.netlist.specs.NetValue.ReadValues.{read_none, read_and}
use Rattle.netlist.specs.Operators.{KeepsNothing}
use Rattle.netlist.specs.Orders.{IsOrder}
use Rattle.netlist.specs.Sound.{IsWire, Sound}
use Rattle.netlist.specs.Wires.{read_by}
use Rattle.netlist.specs.declared.net.Cell.{Cell}
use Rattle.netlist.specs.declared.net.Cell.TheVariants.{Reg, Ram, Use}
use Rattle.netlist.specs.declared.net.Flat.{Flat}
use Rattle.net_sim.specs.Stepping.{Settled, ShowsValues, StandsFor}
use Rattle.net_sim.specs.Tables.{value_in, values_in}
use Rattle.net_sim.proofs.Cells.{awaits_all, cell_fits, driven_once, reads_wires}

-- some wires have the bits of the table, if each does
pub readings : (flat : Flat) (h : List Event) (table : List (List Bool)) (wires : List WireId)
    → ((k : ℕ) (v : WireId) → slice_get wires k ≡ Some v → NetValue flat h v.number (value_in table v.number))
    → ReadValues flat h wires (values_in table wires)
readings flat h table [] each = read_none h
readings flat h table (w ∷ wires) each =
    read_and h w wires (value_in table w.number) (values_in table wires) (each 0 w refl)
    (readings flat h table wires (λ k v at. each (suc k) v at))

-- what is known of the cells before a place of the order
abbrev ShownBefore : Flat → List ℕ → List (List Bool) → List Event → ℕ → Type 0
ShownBefore flat places table h i =
    (j w : ℕ) → j < i → j < length places → target_at flat.cells (slice_index places j) ≡ Some w → NetValue flat h w (value_in table w)

-- a wire has its bits, if it is an input or driven by a cell before the place
shown_wire : (flat : Flat) (places : List ℕ) (table : List (List Bool)) (event : Event) (past : List Event) (w : ℕ)
    → Sound flat → Settled flat table event → w < length flat.widths
    → ((place : ℕ) → target_at flat.cells place ≡ Some w → NetValue flat (event ∷ past) w (value_in table w))
    → NetValue flat (event ∷ past) w (value_in table w)
shown_wire flat places table event past w sound settled lt by_driver = from (cases_lt w (length flat.ports.inputs))
  where
    from : (w < length flat.ports.inputs) ⊎ (length flat.ports.inputs ≤ w) → NetValue flat (event ∷ past) w (value_in table w)
    from (inl below) = input w event past (value_in table w) below (settled.inputs w below)
    from (inr above) = let driver = (driven_once flat sound).driven w above lt in by_driver driver.0 driver.1

-- what a cell awaits, by its place
pub awaited_there : (flat : Flat) (place k : ℕ) (cell : Cell) (v : WireId) → slice_get flat.cells place ≡ Some cell → KeepsNothing cell
    → slice_get (read_by cell) k ≡ Some v → awaited_at flat.cells place k ≡ Some v.number
awaited_there flat place k cell v at keeps reads =
    ap (option_and_then (λ c. awaited_wire c k)) at
    ∙ ap (λ wires. option_map (λ (w : WireId). w.number) (slice_get wires k)) (awaits_all cell keeps)
    ∙ ap (option_map (λ (w : WireId). w.number)) reads

-- a cell that keeps nothing gives its wire the bits of the table
shown_by : (flat : Flat) (places : List ℕ) (table : List (List Bool)) (event : Event) (past : List Event) (j w : ℕ) (cell : Cell)
    → Sound flat → IsOrder flat places → Settled flat table event → ShownBefore flat places table (event ∷ past) j → j < length places
    → slice_get flat.cells (slice_index places j) ≡ Some cell → KeepsNothing cell → target cell ≡ Some w
    → NetValue flat (event ∷ past) w (value_in table w)
shown_by flat places table event past j w cell sound order settled before lt at keeps t =
    let h = event ∷ past in
    let has : HasCell flat cell = (slice_index places j, at) in
    let wires = reads_wires (length flat.ports.domains) flat.widths cell (cell_fits flat cell sound has) in
    let reads = readings flat h table (read_by cell) (λ k v there.
    shown_wire flat places table event past v.number sound settled (all_at (IsWire flat.widths) (read_by cell) k v wires there)
    (λ place drives.
    let earlier = order.after j k v.number place lt (awaited_there flat (slice_index places j) k cell v at keeps there) drives in
    before earlier.0 v.number earlier.1 (omega (arith, earlier.1)) (ap (target_at flat.cells) earlier.2 ∙ drives))) in
    subst (NetValue flat h w) (sym (settled.cells cell w has keeps t)) (operated cell w h (values_in table (read_by cell)) has keeps t reads)

-- a cell gives its wire the bits of the table
shown_cell : (flat : Flat) (places : List ℕ) (table : List (List Bool)) (memories : List (List (List Bool))) (event : Event) (past : List Event)
    (j w : ℕ) (cell : Cell) → Sound flat → IsOrder flat places → Settled flat table event → StandsFor flat table memories past
    → ShownBefore flat places table (event ∷ past) j → j < length places
    → slice_get flat.cells (slice_index places j) ≡ Some cell → target cell ≡ Some w
    → NetValue flat (event ∷ past) w (value_in table w)
shown_cell flat places table memories event past j w (Reg v domain initial a) sound order settled stands before lt at t =
    let is : v.number ≡ w = cc in
    subst (λ n. NetValue flat (event ∷ past) n (value_in table n)) is (stands.registers event v a domain initial (slice_index places j, at))
shown_cell flat places table memories event past j w (Ram v domain words inputs) sound order settled stands before lt at t =
    let is : v.number ≡ w = cc in
    subst (λ n. NetValue flat (event ∷ past) n (value_in table n)) is
    (stands.rams event v (record { domain = domain; words = words; inputs = inputs }) (slice_index places j, at))
shown_cell flat places table memories event past j w (Use m reads drives) sound order settled stands before lt at t =
    absurd (cell_fits flat (Use m reads drives) sound (slice_index places j, at))
shown_cell flat places table memories event past j w cell sound order settled stands before lt at t =
    shown_by flat places table event past j w cell sound order settled before lt at tt t

shown_before : (flat : Flat) (places : List ℕ) (table : List (List Bool)) (memories : List (List (List Bool))) (event : Event) (past : List Event)
    (i : ℕ) → Sound flat → IsOrder flat places → Settled flat table event → StandsFor flat table memories past
    → ShownBefore flat places table (event ∷ past) i
shown_before flat places table memories event past zero sound order settled stands = λ j w lt within t. absurd (omega arith)
shown_before flat places table memories event past (suc i) sound order settled stands = λ j w lt within t.
    let there = cell_there flat.cells (slice_index places j) w t in
    let earlier = shown_before flat places table memories event past i sound order settled stands in
    shown_cell flat places table memories event past j w there.0 sound order settled stands
    (λ k v less inside drives. earlier k v (omega arith) inside drives) within there.1 there.2

pub every_value : (flat : Flat) (places : List ℕ) (table : List (List Bool)) (memories : List (List (List Bool))) (event : Event) (past : List Event)
    → Sound flat → IsOrder flat places → Settled flat table event → StandsFor flat table memories past
    → ShowsValues flat table (event ∷ past)
every_value flat places table memories event past sound order settled stands = λ w lt.
    shown_wire flat places table event past w sound settled lt
    (λ place drives.
    let there = cell_there flat.cells place w drives in
    let found = order.all place (slice_get_within flat.cells place there.0 there.1) in
    shown_before flat places table memories event past (found.0 + 1) sound order settled stands found.0 w (omega arith) found.1
    (ap (target_at flat.cells) found.2 ∙ drives))
