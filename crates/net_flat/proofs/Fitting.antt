-- Cells of a module fit among the flat wires.
use Rattle.std.proofs.Common.{◌≡◌, ℕ, ◌+◌, List, [], ◌∷◌, length, map, Some, slice_get, get_or, refl, sym, ap, ◌∙◌}
use Rattle.std.specs.Prelude.{slice_index}
use Rattle.std.specs.List.{AllByRecursion}
use Rattle.std.proofs.lemmas.List.Sums.{sum_by-cons}
use Rattle.std.proofs.lemmas.Option.{get_or_from_slice_get, slice_get-get_or, slice_get_within}
use Rattle.chw_base.specs.declared.index.WireId.{WireId}
use Rattle.net_rules.specs.WellFormed.{HasFewWords, PartExists, WidthsAgree}
use Rattle.netlist.specs.Sound.{Fits1, Fits2, FitsCell, IsWire, width_of_all}
use Rattle.netlist.specs.declared.net.Cell.{Cell}
use Rattle.netlist.specs.declared.net.Cell.TheVariants.{Const, Copy, Join, Cut, Un, Bin, Mux, Reg, Ram, Use}
use Rattle.netlist.specs.declared.net.Module.{Module}
use Rattle.netlist.specs.declared.net.Op1.{Op1}
use Rattle.netlist.specs.declared.net.Op1.TheVariants.{Not}
use Rattle.netlist.specs.declared.net.Op2.{Op2}
use Rattle.netlist.specs.declared.net.Op2.TheVariants.{Add, Sub, Mul, And, Or, Xor, Eq, LtU, LtS, Shl, Shr, Sar}
use Rattle.net_flat.specs.Flattened.{NoUse, moved, wire_from}

-- the wires of these widths are among all from this one on
abbrev pub Shows : List ℕ → List ℕ → ℕ → Type 0
Shows widths all base = (w n : ℕ) → slice_get widths w ≡ Some n → slice_get all (base + w) ≡ Some n

wire_there : (widths all : List ℕ) (base : ℕ) (w : WireId) → Shows widths all base → IsWire widths w → IsWire all (wire_from base w)
wire_there widths all base w s h = slice_get_within all (base + w.number) _ (s w.number (get_or widths w.number 0) (slice_get-get_or widths w.number 0 h))

wires_there : (widths all : List ℕ) (base : ℕ) (ws : List WireId) → Shows widths all base → AllByRecursion (IsWire widths) ws
    → AllByRecursion (IsWire all) (map (wire_from base) ws)
wires_there widths all base [] s h = tt
wires_there widths all base (w ∷ ws) s h = (wire_there widths all base w s h.0, wires_there widths all base ws s h.1)

joined_width : (widths all : List ℕ) (base : ℕ) (ws : List WireId) → Shows widths all base → AllByRecursion (IsWire widths) ws
    → width_of_all all (map (wire_from base) ws) ≡ width_of_all widths ws
joined_width widths all base [] s h = refl
joined_width widths all base (w ∷ ws) s h =
    let here = slice_get-get_or widths w.number 0 h.0 in
    let there = s w.number (get_or widths w.number 0) here in
    let same : slice_index all (base + w.number) ≡ slice_index widths w.number = get_or_from_slice_get all (base + w.number) (get_or widths w.number 0) 0 there in
    let rest = joined_width widths all base ws s h.1 in
    let first = sum_by-cons (λ (v : WireId). slice_index all v.number) (wire_from base w) (map (wire_from base) ws) in
    let second = sum_by-cons (λ (v : WireId). slice_index widths v.number) w ws in
    first ∙ ap (λ (n : ℕ). n + width_of_all all (map (wire_from base) ws)) same ∙ ap (λ (n : ℕ). slice_index widths w.number + n) rest ∙ sym second

fits1 : (widths all : List ℕ) (base : ℕ) (op : Op1) (w a : WireId) → Shows widths all base → Fits1 widths op w a
    → Fits1 all op (wire_from base w) (wire_from base a)
fits1 widths all base Not w a s h = (h.0, s w.number h.0 h.1, s a.number h.0 h.2)
fits1 widths all base _ w a s h = (s w.number 1 h.0, wire_there widths all base a s h.1)

fits2 : (widths all : List ℕ) (base : ℕ) (op : Op2) (w a b : WireId) → Shows widths all base → Fits2 widths op w a b
    → Fits2 all op (wire_from base w) (wire_from base a) (wire_from base b)
fits2 widths all base Add w a b s h = (h.0, h.1, s w.number h.0 h.2, s a.number h.0 h.3, s b.number h.0 h.4)
fits2 widths all base Sub w a b s h = (h.0, h.1, s w.number h.0 h.2, s a.number h.0 h.3, s b.number h.0 h.4)
fits2 widths all base Mul w a b s h = (h.0, h.1, s w.number h.0 h.2, s a.number h.0 h.3, s b.number h.0 h.4)
fits2 widths all base And w a b s h = (h.0, s w.number h.0 h.1, s a.number h.0 h.2, s b.number h.0 h.3)
fits2 widths all base Or w a b s h = (h.0, s w.number h.0 h.1, s a.number h.0 h.2, s b.number h.0 h.3)
fits2 widths all base Xor w a b s h = (h.0, s w.number h.0 h.1, s a.number h.0 h.2, s b.number h.0 h.3)
fits2 widths all base Eq w a b s h = (s w.number 1 h.0, (h.1.0, s a.number h.1.0 h.1.1, s b.number h.1.0 h.1.2))
fits2 widths all base LtU w a b s h = (s w.number 1 h.0, (h.1.0, s a.number h.1.0 h.1.1, s b.number h.1.0 h.1.2))
fits2 widths all base LtS w a b s h = (s w.number 1 h.0, (h.1.0, s a.number h.1.0 h.1.1, s b.number h.1.0 h.1.2))
fits2 widths all base Shl w a b s h = (wire_there widths all base b s h.0, (h.1.0, s w.number h.1.0 h.1.1, s a.number h.1.0 h.1.2))
fits2 widths all base Shr w a b s h = (wire_there widths all base b s h.0, (h.1.0, s w.number h.1.0 h.1.1, s a.number h.1.0 h.1.2))
fits2 widths all base Sar w a b s h = (wire_there widths all base b s h.0, (h.1.0, s w.number h.1.0 h.1.1, s a.number h.1.0 h.1.2))

-- a cell that agrees in its module fits among the flat wires
pub fits_moved : (domains : ℕ) (earlier : List Module) (widths all : List ℕ) (base : ℕ) (c : Cell) → Shows widths all base → NoUse c
    → PartExists domains earlier c → WidthsAgree earlier widths c → HasFewWords c → FitsCell domains all (moved base c)
fits_moved domains earlier widths all base (Const w bits) s n part h few = s w.number (length bits) h
fits_moved domains earlier widths all base (Copy w a) s n part h few = (h.0, s w.number h.0 h.1, s a.number h.0 h.2)
fits_moved domains earlier widths all base (Join w parts) s n part h few = (
  wires_there widths all base parts s h.0,
  s w.number (width_of_all widths parts) h.1 ∙ ap (λ (k : ℕ). Some k) (sym (joined_width widths all base parts s h.0)),
)
fits_moved domains earlier widths all base (Cut w a high low) s n part h few =
    (h.0, s w.number _ h.1, (h.2.0, h.2.1, s a.number h.2.0 h.2.2))
fits_moved domains earlier widths all base (Un w op a) s n part h few = fits1 widths all base op w a s h
fits_moved domains earlier widths all base (Bin w op a b) s n part h few = fits2 widths all base op w a b s h
fits_moved domains earlier widths all base (Mux w c a b) s n part h few =
    (s c.number 1 h.0, (h.1.0, s w.number h.1.0 h.1.1, s a.number h.1.0 h.1.2, s b.number h.1.0 h.1.3))
fits_moved domains earlier widths all base (Reg w domain initial a) s n part h few =
    (part, s w.number (length initial) h.0, s a.number (length initial) h.1)
fits_moved domains earlier widths all base (Ram w domain words inputs) s n part h few = (
  part,
  (
    few.0,
    few.1,
    s inputs.read.number _ h.read,
    s inputs.enable.number 1 h.enable,
    s inputs.place.number _ h.place,
    (h.width, s w.number h.width h.shown, s inputs.value.number h.width h.value, h.each_word),
  ),
)
fits_moved domains earlier widths all base (Use k reads drives) s n part h few = absurd n
