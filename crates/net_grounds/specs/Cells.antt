-- What is promised of the bits of cells.
use Rattle.std.specs.Prelude.{Bool, List, Some, [], get_or, length, suc, ℕ, ◌<◌, ◌∷◌, ◌≡◌}
use Rattle.cell_bits.specs.Bearing.{Bears, HasCells}
use Rattle.chw_base.specs.declared.index.WireId.{WireId}
use Rattle.chw_bits.specs.Bits.{cut_of}
use Rattle.chw_clock.specs.declared.event.Event.{Event}
use Rattle.chw_prims.specs.declared.prim.Primitive.{Primitive as Prim}
use Rattle.net_built.specs.Wires.{Piece, after, last_wires, new_wires, one, wire}
use Rattle.net_built.specs.Words.{only, word_cells}
use Rattle.netlist.specs.Feeds.{target}
use Rattle.netlist.specs.Operators.{KeepsNothing, operator}
use Rattle.netlist.specs.Wires.{read_by}
use Rattle.netlist.specs.declared.net.Cell.{Cell}
use Rattle.netlist.specs.declared.net.Cell.TheVariants.{Cut}
use Rattle.netlist.specs.declared.net.Net.{Net}
use Rattle.prim_bits.specs.Values.{value_of}
use Rattle.use_laws.specs.ValueIn.{HasCellAt, ReadIn, ValueIn}

-- the last wire of a piece has these bits, where the instance has its cells
abbrev pub Gives : Net → List ℕ → List Event → (at : ℕ) → Piece → List Bool → Type 0
Gives net path h at p bits =
    HasCells net path p.cells → Bears net path h (last_wires at p (length bits ∷ [])) bits

-- facts on the bits of cells
pub record CellFacts : Type 0 where
  -- a new wire bears bits that it has, if there are any
  pub bears_at :
      (net : Net) (path : List ℕ) (h : List Event) → (at w : ℕ) (bits : List Bool)
      → length bits ≡ w → (0 < w → ValueIn net path h at bits)
      → Bears net path h (new_wires at (w ∷ [])) bits
  -- a wire that bears bits has them
  pub wire_value :
      (net : Net) (path : List ℕ) (h : List Event) → {a : List WireId} {bits : List Bool}
      → Bears net path h a bits → 0 < length bits → ValueIn net path h (only a).number bits
  -- the last wire of a piece is the one of this number
  pub last_at :
      (n m w : ℕ) (p : Piece)
      → (0 < w → after n p ≡ suc m) → last_wires n p (w ∷ []) ≡ new_wires m (w ∷ [])
  -- the wire of a piece of one cell bears the bits that the cell gives
  pub one_bears :
      (net : Net) (path : List ℕ) (h : List Event) → (at w : ℕ) (cell : Cell) (bits : List Bool)
      → length bits ≡ w → HasCells net path (one w cell).cells
      → (0 < w → HasCellAt net path cell → ValueIn net path h at bits)
      → Bears net path h (new_wires at (w ∷ [])) bits
  -- it bears the value of the cell's operator on what the cell reads
  pub operator_bears :
      {net : Net} {path : List ℕ} {h : List Event} (w n : ℕ) (cell : Cell)
      (values : List (List Bool)) (bits : List Bool)
      → length bits ≡ w → (0 < w → operator cell values ≡ bits) → KeepsNothing cell
      → target cell ≡ Some n → (0 < w → ReadIn net path h (read_by cell) values)
      → HasCells net path (one w cell).cells
      → Bears net path h (last_wires n (one w cell) (length bits ∷ [])) bits
  -- a cut has a part of the bits
  pub cut_value :
      (net : Net) (path : List ℕ) (h : List Event) → (at high low : ℕ) (a : WireId)
      (bits : List Bool)
      → HasCellAt net path (Cut (wire at) a high low) → ValueIn net path h a.number bits
      → ValueIn net path h at (cut_of high low bits)
  -- the cells of a primitive give its value
  pub values_bear :
      {net : Net} {path : List ℕ} {h : List Event} (p : Prim) (nats : List ℕ)
      (args : List (List Bool)) (at : ℕ) (a b : List WireId) (bits : List Bool)
      → value_of p nats args ≡ Some bits → Bears net path h a (get_or args 0 [])
      → (1 < length args → Bears net path h b (get_or args 1 []))
      → Gives net path h at (word_cells p (get_or nats 0 0) (get_or nats 1 0) at a b) bits
