-- What holds where an instance is entered, and what is so far when some are.
use Rattle.std.specs.Prelude.{◌≡◌, ◌↔◌, ℕ, ◌+◌, ◌≤◌, List, ◌++◌, length, reverse}
use Rattle.std.specs.Prelude.{Some, slice_get}
use Rattle.chw_base.specs.declared.limits.TheConstants.{FLAT_WIRES}
use Rattle.net_rules.specs.WellFormed.{WellFormed}
use Rattle.netlist.specs.Sound.{DrivesFrom}
use Rattle.netlist.specs.declared.net.Cell.{Cell}
use Rattle.netlist.specs.declared.net.Module.{Module}
use Rattle.netlist.specs.declared.net.Net.{Net}
use Rattle.net_flat.specs.declared.instances.Instance.{Instance}
use Rattle.net_flat.specs.declared.parts.Parts.{Parts}
use Rattle.net_flat.specs.Flattened.{IsFlatCell, IsTop, widths_in}
use Rattle.net_flat.specs.Instances.{AreOwn, IsPlaced, input_copies, uses_along}
use Rattle.net_flat.specs.Sizes.{AreSizes}

-- the net is well formed, and these are the sizes of its modules
pub record Sized (net : Net) (sizes : List ℕ) : Type 0 where
  pub well_formed : WellFormed net
  pub known : AreSizes net sizes
  pub all : length sizes ≡ length net.modules

-- an instance of this module of the net, of which all flat wires are within the limit
pub record Enters (net : Net) (sizes : List ℕ) (x : Instance) (m : Module) : Type 0 where
  pub sized : Sized net sizes
  pub placed : IsPlaced net x
  pub found : slice_get net.modules x.module.number ≡ Some m
  pub within : x.base + length (widths_in net x.module.number) ≤ FLAT_WIRES

-- the wires and cells of an instance were pushed, and those that it uses wait, the first on top
pub record Entered (net : Net) (sizes : List ℕ) (x : Instance) (before after : Parts)
    : Type 0 where
  pub m : Module
  pub enters : Enters net sizes x m
  pub widths : after.widths.items ≡ before.widths.items ++ m.widths
  pub own : List Cell
  pub cells : after.cells.items
      ≡ before.cells.items ++ (input_copies x.base x.reads ++ own)
  pub are_own : AreOwn net x.base m own
  pub waiting : after.waiting.items ≡ before.waiting.items
      ++ reverse (uses_along sizes x.base (x.base + length m.widths) m.cells)

-- the flat wires of the top are within the limit
abbrev pub FitsWhole : Net → Type 0
FitsWhole net =
    (i : ℕ) → i + 1 ≡ length net.modules → length (widths_in net i) ≤ FLAT_WIRES

-- the wires and the cells are those of the flat net, which are as many as its wires that are no
-- inputs
pub record IsWhole (net : Net) (parts : Parts) : Type 0 where
  pub place : ℕ
  pub m : Module
  pub top : IsTop net place m
  pub widths : parts.widths.items ≡ widths_in net place
  pub in_order : DrivesFrom m.inputs parts.cells.items
  pub all : m.inputs + length parts.cells.items ≡ length parts.widths.items
  pub cells : (cell : Cell)
      → ((at : ℕ) × (slice_get parts.cells.items at ≡ Some cell)) ↔ IsFlatCell net cell
