-- A value of a wire of a sound net has the wire's width.
use Rattle.std.proofs.Common.{◌≡◌, ℕ, zero, suc, Bool, List, [], ◌∷◌, length, Some, slice_get, ap, sym, ◌∙◌}
use Rattle.std.specs.Prelude.{map, take}
use Rattle.std.specs.List.{AllByRecursion}
use Rattle.chw_base.specs.declared.index.WireId.{WireId}
use Rattle.chw_clock.specs.Histories.{FitsPorts, HaveWidths}
use Rattle.chw_clock.specs.declared.event.Event.{Event}
use Rattle.chw_clock.specs.declared.event.Port.{Port}
use Rattle.chw_bits.specs.Bits.{number_of}
use Rattle.netlist.specs.NetValue.{HasCell, Memory, NetValue, ReadValues, WordAt}
use Rattle.netlist.specs.NetValue.NetValue.{input, operated, first, later, unread, outside, shown}
use Rattle.netlist.specs.NetValue.ReadValues.{read_none, read_and}
use Rattle.netlist.specs.NetValue.WordAt.{unwritten, written, kept}
use Rattle.netlist.specs.Sound.{FitsCell, Sound}
use Rattle.netlist.specs.Wires.{read_by}
use Rattle.netlist.specs.declared.net.Cell.{Cell}
use Rattle.netlist.specs.declared.net.Cell.TheVariants.{Reg, Ram}
use Rattle.netlist.specs.declared.net.Flat.{Flat}
use Rattle.netlist.proofs.Before.{before_fits, taken_fits}
use Rattle.netlist.proofs.Places.{all_at}
use Rattle.netlist.proofs.Widths.{Lengths, made_length, operator_width}

-- an input's bits have the port's width, which is that of its wire
input_width : (ports : List Port) (widths : List ℕ) (inputs : List (List Bool)) (n w : ℕ) (bits : List Bool)
    → map (λ port. port.width) ports ≡ take n widths → HaveWidths ports inputs → slice_get inputs w ≡ Some bits → slice_get widths w ≡ Some (length bits)
input_width [] widths [] n w bits e h at = absurd (cc)
input_width [] widths (x ∷ inputs) n w bits e h at = absurd h
input_width (p ∷ ports) widths [] n w bits e h at = absurd h
input_width (p ∷ ports) widths (x ∷ inputs) zero w bits e h at = absurd (cc)
input_width (p ∷ ports) [] (x ∷ inputs) (suc n) w bits e h at = absurd (cc)
input_width (p ∷ ports) (m ∷ widths) (x ∷ inputs) (suc n) zero bits e h at =
    let wide : p.width ≡ m = cc in let is : x ≡ bits = cc in ap Some (sym wide ∙ sym h.0 ∙ ap length is)
input_width (p ∷ ports) (m ∷ widths) (x ∷ inputs) (suc n) (suc w) bits e h at =
    input_width ports widths inputs n w bits (cc) h.1 at

-- the cell of a sound net fits
pub fits_cell : (flat : Flat) (cell : Cell) → Sound flat → HasCell flat cell → FitsCell (length flat.ports.domains) flat.widths cell
fits_cell flat cell sound has = all_at (FitsCell (length flat.ports.domains) flat.widths) flat.cells has.0 cell sound.cells has.1

module _ (flat : Flat) (sound : Sound flat) where
  mutual
    pub value_width : (h : List Event) (w : ℕ) (bits : List Bool) → FitsPorts flat.ports h → NetValue flat h w bits → slice_get flat.widths w ≡ Some (length bits)
    value_width _ _ _ fits (input w present past bits lt e) =
        input_width flat.ports.inputs flat.widths present.inputs (length flat.ports.inputs) w bits sound.inputs fits.0.inputs e
    value_width _ _ _ fits (operated cell w h values has keeps t reads) =
        operator_width (length flat.ports.domains) flat.widths cell w values (fits_cell flat cell sound has) keeps t (reading_width h (read_by cell) values fits reads)
    value_width _ _ _ fits (first w a domain initial h has e) = (fits_cell flat (Reg w domain initial a) sound has).1
    value_width _ _ _ fits (later w a domain initial bits h past has e v) =
        let cell = fits_cell flat (Reg w domain initial a) sound has in
        cell.1 ∙ sym cell.2 ∙ value_width past a.number bits (taken_fits flat.ports h past domain fits e) v
    value_width _ _ _ fits (unread w ram width h has wide e) = wide ∙ ap Some (sym (made_length width 0))
    value_width _ _ _ fits (outside w ram width h past address has wide e v le) = wide ∙ ap Some (sym (made_length width 0))
    value_width _ _ _ fits (shown w ram h past address bits has e v lt word) =
        let cell = (fits_cell flat (Ram w ram.domain ram.words ram.inputs) sound has).1 in
        cell.5.1 ∙ ap Some (sym (word_width ram past (number_of address) bits cell.5.0 cell.5.3 cell.5.2 (before_fits flat.ports h past ram.domain fits e) word))

    reading_width : (h : List Event) (wires : List WireId) (values : List (List Bool)) → FitsPorts flat.ports h → ReadValues flat h wires values → Lengths flat.widths wires values
    reading_width _ _ _ fits (read_none h) = tt
    reading_width _ _ _ fits (read_and h w wires bits values v vs) = (value_width h w.number bits fits v, reading_width h wires values fits vs)

    word_width : (ram : Memory) (h : List Event) (address : ℕ) (bits : List Bool) (n : ℕ) → AllByRecursion (λ word. length word ≡ n) ram.words
        → slice_get flat.widths ram.inputs.value.number ≡ Some n → FitsPorts flat.ports h → WordAt flat ram h address bits → length bits ≡ n
    word_width _ _ _ _ n all wide fits (unwritten ram h address bits e at) = all_at (λ word. length word ≡ n) ram.words address bits all at
    word_width _ _ _ _ n all wide fits (written ram h past address enable place bits e on at t v) =
        let own = value_width past ram.inputs.value.number bits (before_fits flat.ports h past ram.domain fits e) v in
        let same : Some (length bits) ≡ Some n = sym own ∙ wide in cc
    word_width _ _ _ _ n all wide fits (kept ram h past address enable place bits e on at t word) =
        word_width ram past address bits n all wide (before_fits flat.ports h past ram.domain fits e) word
