-- Whether a cell copies a wire, by the classes of equal wires; and the cell of a wire.
use Rattle.std.specs.Prelude.{◌≡◌, ℕ, ◌+◌, ◌<◌, ◌==◌, Bool, true, false, ◌&&◌, ◌||◌, List, length}
use Rattle.std.specs.Prelude.{Some, slice_index, slice_index_or}
use Rattle.netlist.specs.Feeds.{target}
use Rattle.netlist.specs.NetValue.{HasCell}
use Rattle.netlist.specs.declared.net.Cell.{Cell}
use Rattle.netlist.specs.declared.net.Cell.TheVariants.{Copy, Join, Cut, Mux}
use Rattle.netlist.specs.declared.net.Flat.{Flat}
use Rattle.wire_classes.specs.declared.classes.Classes.{Classes}

-- bits of the wire are known
abbrev pub has_bits : Classes → ℕ → Bool
has_bits c w = slice_index_or c.known w false

-- the wires are of one class
abbrev pub are_one : Classes → (v w : ℕ) → Bool
are_one c v w = slice_index c.of v == slice_index c.of w

-- the cell copies a wire, where wires have these widths and classes
abbrev pub is_copy : List ℕ → Classes → Cell → Bool
is_copy widths c (Copy w a) = true
is_copy widths c (Join w parts) = length parts == 1
is_copy widths c (Cut w a high low) =
    (low == 0) && (slice_index widths a.number == high + 1)
is_copy widths c (Mux w on a b) = has_bits c on.number || are_one c a.number b.number
is_copy widths c _ = false

-- the highest bit of a cut is one of the wire's
abbrev pub IsCutWithin : List ℕ → Cell → Type 0
IsCutWithin widths (Cut w a high low) = high < slice_index widths a.number
IsCutWithin widths _ = Unit {0}

-- the net has the cell, and it drives the wire
pub record Drives (flat : Flat) (w : ℕ) (cell : Cell) : Type 0 where
  pub has : HasCell flat cell
  pub wire : target cell ≡ Some w
