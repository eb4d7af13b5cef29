-- What is promised of the wires of instances in a flat net.
use Rattle.std.specs.Prelude.{List, Some, flat_map, length, slice_get, take, ℕ, ◌++◌, ◌+◌, ◌<◌, ◌≡◌}
use Rattle.chw_base.specs.declared.index.DomId.{DomId}
use Rattle.chw_base.specs.declared.index.ModId.{ModId}
use Rattle.chw_base.specs.declared.index.WireId.{WireId}
use Rattle.chw_clock.specs.Histories.{FitsPorts, before, taken}
use Rattle.chw_clock.specs.declared.event.Event.{Event}
use Rattle.chw_clock.specs.declared.event.Ports.{Ports}
use Rattle.net_flat.specs.Flattened.{IsUse, widths_in, widths_of_use, wires_before}
use Rattle.net_rules.specs.WellFormed.{WellFormed}
use Rattle.netlist.specs.Feeds.{target_at}
use Rattle.netlist.specs.Sound.{DrivesFrom}
use Rattle.netlist.specs.declared.net.Cell.{Cell}
use Rattle.netlist.specs.declared.net.Cell.TheVariants.{Use}
use Rattle.netlist.specs.declared.net.Module.{Module}
use Rattle.netlist.specs.declared.net.Net.{Net}

-- the flat wires of these uses
abbrev pub wires_of_uses : Net → List Cell → List ℕ
wires_of_uses net cells = flat_map (widths_of_use (widths_in net)) cells

-- facts on the wires of instances in a flat net
pub record FlatFacts : Type 0 where
  -- an instance has its own wires, and then those of its uses
  pub widths_step :
      (net : Net) (i : ℕ) (m : Module)
      → WellFormed net → slice_get net.modules i ≡ Some m
      → widths_in net i ≡ m.widths ++ flat_map (widths_of_use (widths_in net)) m.cells
  -- the wires before a use are as many as is counted
  pub long_before :
      (net : Net) (m : Module) (before : List Cell)
      → length (m.widths ++ wires_of_uses net before) ≡ wires_before net m before
  -- the use at a place stands behind the cells before it
  pub stands_at :
      (m : Module) (place : ℕ) (k : ModId) (reads drives : List WireId)
      → slice_get m.cells place ≡ Some (Use k reads drives)
      → IsUse m.cells (take place m.cells) k reads drives
  -- those of one use stand between those before it and those behind it
  pub use_split :
      (net : Net) (i : ℕ) (m : Module) (before : List Cell) (k : ModId) (reads drives : List WireId)
      → WellFormed net → slice_get net.modules i ≡ Some m
      → (u : IsUse m.cells before k reads drives)
      → widths_in net i ≡ (m.widths ++ wires_of_uses net before)
      ++ (widths_in net k.number ++ wires_of_uses net u.after)
  -- a cell that drives in order drives the wire of its place
  pub driven_wire :
      (inputs : ℕ) (cells : List Cell) (d : DrivesFrom inputs cells) → (p w : ℕ)
      → target_at cells p ≡ Some w → w ≡ inputs + p
  -- and each cell within drives one
  pub target_in_order :
      (w : ℕ) (cells : List Cell)
      → DrivesFrom w cells → (p : ℕ)
      → p < length cells → target_at cells p ≡ Some (w + p)
  -- a history before a tick fits the ports
  pub before_fits :
      (ports : Ports) (h past : List Event) (d : DomId)
      → FitsPorts ports h → before h d ≡ Some past → FitsPorts ports past
  -- and is shorter
  pub before_shorter :
      (ports : Ports) (h past : List Event) (d : DomId)
      → FitsPorts ports h → before h d ≡ Some past → length past < length h
  -- so does the history that was taken at a tick
  pub taken_fits :
      (ports : Ports) (h past : List Event) (d : DomId)
      → FitsPorts ports h → taken h d ≡ Some past → FitsPorts ports past
  -- which is shorter too
  pub taken_shorter :
      (ports : Ports) (h past : List Event) (d : DomId)
      → FitsPorts ports h → taken h d ≡ Some past → length past < length h
