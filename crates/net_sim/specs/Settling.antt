-- How cells renew the wires of a table, one after another.
use Rattle.std.specs.Prelude.{◌≡◌, ℕ, ◌<◌, Bool, List, length, map, Some}
use Rattle.std.specs.Prelude.{slice_get, slice_index, slice_set}
use Rattle.net_sim.specs.Tables.{given_in, value_in}
use Rattle.netlist.specs.Feeds.{target}
use Rattle.netlist.specs.NetValue.{HasCell}
use Rattle.netlist.specs.Operators.{KeepsNothing}
use Rattle.netlist.specs.declared.net.Cell.{Cell}
use Rattle.netlist.specs.declared.net.Flat.{Flat}

-- the cell has renewed its wire if it keeps nothing, and nothing else is changed
pub record Renews (cell : Cell) (old new : List (List Bool)) : Type 0 where
  pub wire : KeepsNothing cell → (w : ℕ) → target cell ≡ Some w
      → new ≡ slice_set old w (given_in old cell)
  pub stays : (KeepsNothing cell → ⊥) → new ≡ old
  pub widths : map length new ≡ map length old

-- the wires of registers and RAMs are as they were
abbrev pub KeepsKeepers : Flat → (old new : List (List Bool)) → Type 0
KeepsKeepers flat old new =
    (cell : Cell) (w : ℕ) → HasCell flat cell → (KeepsNothing cell → ⊥) → target cell ≡ Some w
    → value_in new w ≡ value_in old w

-- the inputs, and the wires of registers and RAMs, are as they were
pub record KeepsOthers (flat : Flat) (old new : List (List Bool)) : Type 0 where
  pub inputs : (w : ℕ) → w < length flat.ports.inputs → value_in new w ≡ value_in old w
  pub keepers : KeepsKeepers flat old new

-- the cell at this place has made its wire's bits of what it reads, if it keeps nothing
abbrev pub IsSettledAt : Flat → List (List Bool) → ℕ → Type 0
IsSettledAt flat table place =
    (cell : Cell) (w : ℕ) → slice_get flat.cells place ≡ Some cell → KeepsNothing cell
    → target cell ≡ Some w → value_in table w ≡ given_in table cell

-- the cells before a place of the order are settled, and nothing else is changed
pub record SettledBefore (flat : Flat) (places : List ℕ) (old new : List (List Bool)) (i : ℕ)
    : Type 0 where
  pub settled : (j : ℕ) → j < i → IsSettledAt flat new (slice_index places j)
  pub others : KeepsOthers flat old new
  pub widths : map length new ≡ flat.widths
