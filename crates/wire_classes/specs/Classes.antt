-- The classes of equal wires of a flat net.
use Rattle.std.specs.Prelude.{◌≡◌, ℕ, ◌<◌, Bool, true, List, length, Some, slice_get}
use Rattle.netlist.specs.declared.net.Flat.{Flat}
use Rattle.share_laws.specs.Same.{IsKnown, Same}
use Rattle.wire_classes.specs.declared.classes.Classes.{Classes}

-- Wires of one class are equal, and equal wires are of one class. The marked wires are those of
-- which bits are known, and they have these bits.
pub record AreClasses (flat : Flat) (c : Classes) : Type 0 where
  pub of_each : length c.of ≡ length flat.widths
  pub known_of_each : length c.known ≡ length flat.widths
  pub bits_of_each : length c.bits ≡ length flat.widths
  pub same : (v w a : ℕ) → slice_get c.of v ≡ Some a → slice_get c.of w ≡ Some a → Same flat v w
  pub one : (v w a b : ℕ) → Same flat v w → slice_get c.of v ≡ Some a → slice_get c.of w ≡ Some b
      → a ≡ b
  pub are_known : (w : ℕ) → slice_get c.known w ≡ Some true
      → (bits : List Bool) × IsKnown flat w bits
  pub each_known : (w : ℕ) (bits : List Bool) → IsKnown flat w bits
      → slice_get c.known w ≡ Some true
  pub known_bits : (w : ℕ) (bits : List Bool) → IsKnown flat w bits → slice_get c.bits w ≡ Some bits
  pub within : (w a : ℕ) → slice_get c.of w ≡ Some a → a < length flat.widths
