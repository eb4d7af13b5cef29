-- The cells of kept wires, made by the classes and by new numbers.
use Rattle.std.specs.Prelude.{◌≡◌, ◌↔◌, ℕ, ◌+◌, ◌≤◌, true, false, List, [], ◌∷◌, length}
use Rattle.std.specs.Prelude.{slice_index_or}
use Rattle.netlist.specs.Wires.{read_by}
use Rattle.netlist.specs.declared.net.Cell.{Cell}
use Rattle.netlist.specs.declared.net.Cell.TheVariants.{Const}
use Rattle.netlist.specs.declared.net.Flat.{Flat}
use Rattle.net_share.specs.Copying.{Drives, has_bits}
use Rattle.net_share.specs.Renaming.{new_wires, renamed, wire_of}
use Rattle.share_laws.specs.Same.{IsOpen}
use Rattle.share_laws.specs.Shares.{AllBecome, IsAmong, IsLive, RisesFrom}
use Rattle.wire_classes.specs.declared.classes.Classes.{Classes}

-- The needed wires that are no inputs, in order, and the new numbers: what the outputs become, and
-- what the wires become that are read by the cell of a needed wire, unless its bits are known.
pub record IsPlan (flat : Flat) (kept names : List ℕ) : Type 0 where
  pub rises : RisesFrom (length flat.ports.inputs) kept
  pub live : (w : ℕ) → IsAmong kept w ↔ (IsLive flat w × (length flat.ports.inputs ≤ w))
  pub count : length names ≡ length flat.widths
  pub outputs : AllBecome flat kept flat.outputs (new_wires names flat.outputs)
  pub reads : (w : ℕ) (cell : Cell) → IsLive flat w → IsOpen flat w → Drives flat w cell
      → AllBecome flat kept (read_by cell) (new_wires names (read_by cell))

-- the wire's own cell, renamed
pub record IsRenamed (flat : Flat) (names : List ℕ) (w n : ℕ) (made : Cell) : Type 0 where
  pub cell : Cell
  pub drives : Drives flat w cell
  pub same : made ≡ renamed names n cell

-- a constant where bits of the wire are known, else its own cell, renamed
pub record IsMade (flat : Flat) (c : Classes) (names : List ℕ) (w n : ℕ) (made : Cell) : Type 0
  where
    pub known : has_bits c w ≡ true → made ≡ Const (wire_of n) (slice_index_or c.bits w [])
    pub own : has_bits c w ≡ false → IsRenamed flat names w n made

-- so of each of these wires, where the numbers begin with this one
abbrev pub AreMade : Flat → Classes → List ℕ → ℕ → List ℕ → List Cell → Type 0
AreMade flat c names n [] [] = Unit {0}
AreMade flat c names n (w ∷ wires) (cell ∷ cells) =
    IsMade flat c names w n cell × AreMade flat c names (n + 1) wires cells
AreMade flat c names n _ _ = ⊥
