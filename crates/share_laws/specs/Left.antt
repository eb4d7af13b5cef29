-- When nothing of a flat net is left to share. This is said of its cells alone, without `Same`.
use Rattle.std.specs.Prelude.{◌≡◌, ℕ, suc, Bool, List, [], ◌∷◌, Some, slice_get}
use Rattle.std.specs.List.{AllByRecursion}
use Rattle.chw_base.specs.declared.index.WireId.{WireId}
use Rattle.netlist.specs.Feeds.{target}
use Rattle.netlist.specs.NetValue.{HasCell}
use Rattle.netlist.specs.Wires.{read_by}
use Rattle.netlist.specs.declared.net.Cell.{Cell}
use Rattle.netlist.specs.declared.net.Cell.TheVariants.{Const, Copy, Join, Cut, Mux}
use Rattle.netlist.specs.declared.net.Flat.{Flat}
use Rattle.share_laws.specs.Same.{IsFolded, bare}

-- a constant drives the wire
abbrev pub IsConstant : Flat → WireId → Type 0
IsConstant flat w = (bits : List Bool) × HasCell flat (Const w bits)

-- the wire is an output, or it is read by a cell whose own wire reaches an output
pub data ReachesOutput (flat : Flat) : ℕ → Type 0 where
  is_output : (k : ℕ) (o : WireId) → slice_get flat.outputs k ≡ Some o
      → ReachesOutput flat o.number
  is_read : (w : ℕ) (cell : Cell) (k : ℕ) (r : WireId) → ReachesOutput flat w
      → HasCell flat cell → target cell ≡ Some w → slice_get (read_by cell) k ≡ Some r
      → ReachesOutput flat r.number

-- nothing of the flat net is left to share
pub record NothingToShare (flat : Flat) : Type 0 where
  -- no cell is a copy
  pub no_copy : (w a : WireId) → HasCell flat (Copy w a) → ⊥
  -- no cut is of a whole wire
  pub no_whole_cut : (w a : WireId) (high : ℕ) → HasCell flat (Cut w a high 0)
      → slice_get flat.widths a.number ≡ Some (suc high) → ⊥
  -- no join has one part
  pub no_single_join : (w a : WireId) → HasCell flat (Join w (a ∷ [])) → ⊥
  -- no choice is between a wire and itself
  pub no_even_choice : (w c a : WireId) → HasCell flat (Mux w c a a) → ⊥
  -- no constant drives the condition of a choice
  pub no_known_choice : (w c a b : WireId) → HasCell flat (Mux w c a b) → IsConstant flat c → ⊥
  -- each folded cell reads a wire that no constant drives
  pub no_known_fold : (cell : Cell) → HasCell flat cell → IsFolded cell
      → AllByRecursion (IsConstant flat) (read_by cell) → ⊥
  -- no two cells are of one kind, have the same fields and read the same wires
  pub no_equal_cells : (p q : ℕ) (c d : Cell) → slice_get flat.cells p ≡ Some c
      → slice_get flat.cells q ≡ Some d → bare c ≡ bare d → read_by c ≡ read_by d → p ≡ q
  -- the wire of each cell reaches an output
  pub needed : (cell : Cell) (w : ℕ) → HasCell flat cell → target cell ≡ Some w
      → ReachesOutput flat w
