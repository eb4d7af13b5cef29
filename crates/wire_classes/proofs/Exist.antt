-- Equal wires exist, and so do those that cells read.
use Rattle.std.proofs.Common.{◌≡◌, ℕ, suc, ◌<◌, Bool, true, false, List, [], length, Some, sym, ap, ◌∙◌, arith, if◌then◌else◌, ◌==◌}
use Rattle.std.specs.Prelude.{option_and_then}
use Rattle.std.specs.List.{AllByRecursion}
use Rattle.std.proofs.lemmas.List.{length-map}
use Rattle.std.proofs.lemmas.Option.{get_or_from_slice_get, slice_get_within}
use Rattle.chw_base.specs.declared.index.WireId.{WireId}
use Rattle.chw_bits.specs.Bits.{number_of}
use Rattle.netlist.specs.Feeds.{target}
use Rattle.netlist.specs.NetValue.{HasCell}
use Rattle.netlist.specs.Sound.{FitsCell, Fits1, Fits2, HasWidth, IsWire, Sound}
use Rattle.netlist.specs.Wires.{read_by}
use Rattle.netlist.specs.declared.net.Cell.{Cell}
use Rattle.netlist.specs.declared.net.Cell.TheVariants.{Const, Copy, Join, Cut, Un, Bin, Mux, Reg, Ram, Use}
use Rattle.netlist.specs.declared.net.Flat.{Flat}
use Rattle.netlist.specs.declared.net.Op1.{Op1}
use Rattle.netlist.specs.declared.net.Op1.TheVariants.{Not}
use Rattle.netlist.specs.declared.net.Op2.{Op2}
use Rattle.netlist.specs.declared.net.Op2.TheVariants.{Add, Sub, Mul, And, Or, Xor, Eq, LtU, LtS}
use Rattle.netlist.proofs.Driven.{target_is_wire}
use Rattle.netlist.proofs.Lengths.{fits_cell}
use Rattle.share_laws.specs.Same.{Copies, IsKnown, Same}
use Rattle.share_laws.specs.Same.Copies.{chosen, copy, either, single, whole}
use Rattle.share_laws.specs.Same.Same.{chained, copied, equal_bits, equal_cells, itself, turned}
use Rattle.wire_classes.specs.Closed.{ShowsKnown, bits_in}

-- as many bits are shown as there are wires
pub shown_count : (flat : Flat) (values : List (List Bool)) → ShowsKnown flat values → length values ≡ length flat.widths
shown_count flat values shown = sym (length-map values length) ∙ ap length shown.widths

pub shown_bits : (flat : Flat) (values : List (List Bool)) → ShowsKnown flat values → (w : ℕ) (bits : List Bool) → IsKnown flat w bits
    → bits_in values w ≡ bits
shown_bits flat values shown w bits k = get_or_from_slice_get values w bits [] (shown.known w bits k)

-- a wire of which bits are known exists
pub known_exists : (flat : Flat) (values : List (List Bool)) → ShowsKnown flat values → (w : ℕ) (bits : List Bool) → IsKnown flat w bits
    → w < length flat.widths
known_exists flat values shown w bits k =
    let l = slice_get_within values w bits (shown.known w bits k) in
    let n = shown_count flat values shown in
    omega (arith, l, n)

-- the wire that a cell drives exists
pub driven_exists : (flat : Flat) → Sound flat → (cell : Cell) (w : ℕ) → HasCell flat cell → target cell ≡ Some w → w < length flat.widths
driven_exists flat sound cell w has t = target_is_wire flat sound has.0 w (ap (λ o. option_and_then target o) has.1 ∙ t)

either_exists : (n : ℕ) (t : Bool) (a b : ℕ) → a < n → b < n → (if t then a else b) < n
either_exists n true a b l m = l
either_exists n false a b l m = m

-- the wire that a cell copies exists
copied_exists : (flat : Flat) (domains : ℕ) (cell : Cell) (a : ℕ) → Copies flat cell a → FitsCell domains flat.widths cell → a < length flat.widths
copied_exists flat domains _ _ (copy w a) f = slice_get_within flat.widths a.number f.0 f.2
copied_exists flat domains _ _ (whole w a high e) f = slice_get_within flat.widths a.number (suc high) e
copied_exists flat domains _ _ (single w a) f = f.0.0
copied_exists flat domains _ _ (either w c a b s) f = slice_get_within flat.widths a.number f.1.0 f.1.2
copied_exists flat domains _ _ (chosen w c a b on k) f =
    either_exists (length flat.widths) (number_of on == 1) a.number b.number (slice_get_within flat.widths a.number f.1.0 f.1.2)
    (slice_get_within flat.widths b.number f.1.0 f.1.3)

-- equal wires exist
pub same_exists : (flat : Flat) → Sound flat → (values : List (List Bool)) → ShowsKnown flat values → (v w : ℕ) → Same flat v w
    → (v < length flat.widths) × (w < length flat.widths)
same_exists flat sound values shown _ _ (itself w l) = (l, l)
same_exists flat sound values shown _ _ (turned v w s) = let both = same_exists flat sound values shown v w s in (both.1, both.0)
same_exists flat sound values shown _ _ (chained u v w s t) =
    ((same_exists flat sound values shown u v s).0, (same_exists flat sound values shown v w t).1)
same_exists flat sound values shown _ _ (copied cell w a has t c) =
    (driven_exists flat sound cell w has t, copied_exists flat (length flat.ports.domains) cell a c (fits_cell flat cell sound has))
same_exists flat sound values shown _ _ (equal_cells c d v w has there t u e all) =
    (driven_exists flat sound c v has t, driven_exists flat sound d w there u)
same_exists flat sound values shown _ _ (equal_bits v w bits k l) =
    (known_exists flat values shown v bits k, known_exists flat values shown w bits l)

-- a wire with a width exists
is_wire : (widths : List ℕ) (w : WireId) (n : ℕ) → HasWidth widths w n → IsWire widths w
is_wire widths w n e = slice_get_within widths w.number n e

one_read : (widths : List ℕ) (op : Op1) (w a : WireId) → Fits1 widths op w a → IsWire widths a
one_read widths Not w a f = is_wire widths a f.0 f.2
one_read widths _ w a f = f.1

two_read : (widths : List ℕ) (op : Op2) (w a b : WireId) → Fits2 widths op w a b → IsWire widths a × IsWire widths b
two_read widths Add w a b f = (is_wire widths a f.0 f.3, is_wire widths b f.0 f.4)
two_read widths Sub w a b f = (is_wire widths a f.0 f.3, is_wire widths b f.0 f.4)
two_read widths Mul w a b f = (is_wire widths a f.0 f.3, is_wire widths b f.0 f.4)
two_read widths And w a b f = (is_wire widths a f.0 f.2, is_wire widths b f.0 f.3)
two_read widths Or w a b f = (is_wire widths a f.0 f.2, is_wire widths b f.0 f.3)
two_read widths Xor w a b f = (is_wire widths a f.0 f.2, is_wire widths b f.0 f.3)
two_read widths Eq w a b f = (is_wire widths a f.1.0 f.1.1, is_wire widths b f.1.0 f.1.2)
two_read widths LtU w a b f = (is_wire widths a f.1.0 f.1.1, is_wire widths b f.1.0 f.1.2)
two_read widths LtS w a b f = (is_wire widths a f.1.0 f.1.1, is_wire widths b f.1.0 f.1.2)
two_read widths _ w a b f = (is_wire widths a f.1.0 f.1.2, f.0)

-- what a cell that fits reads exists
pub reads_exist : (domains : ℕ) (widths : List ℕ) (cell : Cell) → FitsCell domains widths cell → AllByRecursion (IsWire widths) (read_by cell)
reads_exist domains widths (Const w bits) f = tt
reads_exist domains widths (Copy w a) f = (is_wire widths a f.0 f.2, tt)
reads_exist domains widths (Join w parts) f = f.0
reads_exist domains widths (Cut w a high low) f = (is_wire widths a f.2.0 f.2.2, tt)
reads_exist domains widths (Un w op a) f = (one_read widths op w a f, tt)
reads_exist domains widths (Bin w op a b) f = let both = two_read widths op w a b f in (both.0, (both.1, tt))
reads_exist domains widths (Mux w c a b) f = (is_wire widths c 1 f.0, (is_wire widths a f.1.0 f.1.2, (is_wire widths b f.1.0 f.1.3, tt)))
reads_exist domains widths (Reg w domain initial a) f = (is_wire widths a (length initial) f.2, tt)
reads_exist domains widths (Ram w domain words inputs) f =
    let ram = f.1 in (
      is_wire widths inputs.read _ ram.2,
      (is_wire widths inputs.enable 1 ram.3, (is_wire widths inputs.place _ ram.4, (is_wire widths inputs.value ram.5.0 ram.5.2, tt))),
    )
reads_exist domains widths (Use m reads drives) f = absurd f
