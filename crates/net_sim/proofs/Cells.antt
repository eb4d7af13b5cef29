-- What the cells of a sound flat net read and drive.
use Rattle.std.proofs.Common.{◌≡◌, ℕ, ◌<◌, Bool, List, [], ◌∷◌, length, map, set, get_or, Some, slice_get, refl, sym, ap, ◌∙◌, arith}
use Rattle.std.specs.Prelude.{option_and_then}
use Rattle.std.specs.List.{AllByRecursion}
use Rattle.std.proofs.lemmas.Option.{slice_get-get_or}
use Rattle.std.proofs.lemmas.List.{get_or_default, map-set, set-get_or}
use Rattle.chw_base.specs.declared.index.WireId.{WireId}
use Rattle.netlist.proofs.Driven.{each_driven_once}
use Rattle.netlist.proofs.Places.{all_at}
use Rattle.netlist.proofs.Widths.{Lengths, operator_width}
use Rattle.netlist.specs.Feeds.{awaited, target, target_at}
use Rattle.netlist.specs.NetValue.{HasCell}
use Rattle.netlist.specs.Operators.{KeepsNothing}
use Rattle.netlist.specs.Sound.{EachOnce, FitsCell, HasWidth, IsWire, Sound}
use Rattle.netlist.specs.Wires.{read_by}
use Rattle.netlist.specs.declared.net.Cell.{Cell}
use Rattle.netlist.specs.declared.net.Cell.TheVariants.{Const, Copy, Join, Cut, Un, Bin, Mux, Reg, Ram, Use}
use Rattle.netlist.specs.declared.net.Flat.{Flat}
use Rattle.net_sim.specs.Tables.{given_in, value_in, values_in}
use Rattle.net_sim.proofs.Wiring.{is_wire, one_fits, two_fit, width_at, wire_within, wire_width}

-- each wire that is no input is driven by one cell
pub driven_once : (flat : Flat) → Sound flat → EachOnce (length flat.ports.inputs) (length flat.widths) (target_at flat.cells)
driven_once flat sound = each_driven_once flat sound

-- the cells of a net are as its wires need
pub cell_fits : (flat : Flat) (cell : Cell) → Sound flat → HasCell flat cell → FitsCell (length flat.ports.domains) flat.widths cell
cell_fits flat cell sound has = all_at (FitsCell (length flat.ports.domains) flat.widths) flat.cells has.0 cell sound.cells has.1

-- a cell that keeps nothing awaits all that it reads
pub awaits_all : (cell : Cell) → KeepsNothing cell → awaited cell ≡ read_by cell
awaits_all (Reg w domain initial a) keeps = absurd keeps
awaits_all (Ram w domain words inputs) keeps = absurd keeps
awaits_all (Use m reads drives) keeps = absurd keeps
awaits_all _ keeps = refl

-- where it stands, the wire that it drives is the one driven there
pub target_there : (flat : Flat) (place w : ℕ) (cell : Cell) → slice_get flat.cells place ≡ Some cell → target cell ≡ Some w
    → target_at flat.cells place ≡ Some w
target_there flat place w cell at t = ap (option_and_then target) at ∙ t

-- two cells of a sound net that drive one wire are one
pub same_cell : (flat : Flat) (w : ℕ) (c d : Cell) → Sound flat → HasCell flat c → target c ≡ Some w → HasCell flat d → target d ≡ Some w → c ≡ d
same_cell flat w c d sound has t other u =
    let e : has.0 ≡ other.0 =
    (driven_once flat sound).once has.0 other.0 w (target_there flat has.0 w c has.1 t) (target_there flat other.0 w d other.1 u) in
    let f : slice_get flat.cells has.0 ≡ slice_get flat.cells other.0 = ap (slice_get flat.cells) e in
    let at = has.1 in
    let at' = other.1 in
    cc

-- a cell of a sound net drives no input
pub drives_no_input : (flat : Flat) (w : ℕ) (cell : Cell) → Sound flat → HasCell flat cell → target cell ≡ Some w → w < length flat.ports.inputs → ⊥
drives_no_input flat w cell sound has t lt =
    let free = (driven_once flat sound).free has.0 w (target_there flat has.0 w cell has.1 t) in omega arith

-- what a cell reads is there
pub reads_wires : (domains : ℕ) (widths : List ℕ) (cell : Cell) → FitsCell domains widths cell → AllByRecursion (IsWire widths) (read_by cell)
reads_wires domains widths (Const w bits) fits = tt
reads_wires domains widths (Copy w a) fits = (is_wire widths a _ fits.2, tt)
reads_wires domains widths (Join w parts) fits = fits.0
reads_wires domains widths (Cut w a high low) fits = (is_wire widths a _ fits.2.2, tt)
reads_wires domains widths (Un w op a) fits = (one_fits widths op w a fits, tt)
reads_wires domains widths (Bin w op a b) fits = let both = two_fit widths op w a b fits in (both.0, (both.1, tt))
reads_wires domains widths (Mux w c a b) fits =
    (is_wire widths c _ fits.0, (is_wire widths a _ fits.1.2, (is_wire widths b _ fits.1.3, tt)))
reads_wires domains widths (Reg w domain initial a) fits = (is_wire widths a _ fits.2, tt)
reads_wires domains widths (Ram w domain words inputs) fits =
    let ram = fits.1 in (
      is_wire widths inputs.read _ ram.2,
      (is_wire widths inputs.enable _ ram.3, (is_wire widths inputs.place _ ram.4, (is_wire widths inputs.value _ ram.5.2, tt))),
    )
reads_wires domains widths (Use m reads drives) fits = absurd fits

own_width : (table : List (List Bool)) (w : WireId) → IsWire (map length table) w
    → HasWidth (map length table) w (length (value_in table w.number))
own_width table w is =
    let there : slice_get (map length table) w.number ≡ Some (get_or (map length table) w.number 0) =
    slice_get-get_or (map length table) w.number 0 is in
    there ∙ ap Some (sym (wire_width table w (get_or (map length table) w.number 0) there))

lengths_of : (table : List (List Bool)) (wires : List WireId) → AllByRecursion (IsWire (map length table)) wires
    → Lengths (map length table) wires (values_in table wires)
lengths_of table [] all = tt
lengths_of table (w ∷ wires) all = (own_width table w all.0, lengths_of table wires all.1)

-- what a cell gives has the width of the wire that it drives
pub given_width : (table : List (List Bool)) (domains w : ℕ) (cell : Cell) → FitsCell domains (map length table) cell → KeepsNothing cell
    → target cell ≡ Some w → slice_get (map length table) w ≡ Some (length (given_in table cell))
given_width table domains w cell fits keeps t =
    operator_width domains (map length table) cell w (values_in table (read_by cell)) fits keeps t
    (lengths_of table (read_by cell) (reads_wires domains (map length table) cell fits))

-- a wire that keeps its width leaves the widths as they are
pub widths_kept : (table : List (List Bool)) (w : ℕ) (bits : List Bool) → length bits ≡ length (value_in table w)
    → map length (set table w bits) ≡ map length table
widths_kept table w bits same =
    map-set length table w bits
    ∙ ap (set (map length table) w) (same ∙ sym (width_at table w))
    ∙ set-get_or (map length table) w 0

-- the same of a word as it is read
pub kept_read : (table : List (List Bool)) (w : WireId) (d bits : List Bool) → IsWire (map length table) w
    → length bits ≡ length (get_or table w.number d) → map length (set table w.number bits) ≡ map length table
kept_read table w d bits is same =
    widths_kept table w.number bits (same ∙ ap length (get_or_default table w.number d [] (wire_within table w is)))
