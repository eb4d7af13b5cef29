-- Which bits the wires of a piece have in an instance of a module at a history.
use Rattle.std.specs.Prelude.{◌≡◌, ℕ, Bool, List, [], ◌∷◌, ◌++◌, Some, slice_get}
use Rattle.chw_base.specs.declared.index.WireId.{WireId}
use Rattle.chw_clock.specs.declared.event.Event.{Event}
use Rattle.netlist.specs.declared.net.Cell.{Cell}
use Rattle.netlist.specs.declared.net.Net.{Net}
use Rattle.use_laws.specs.ValueIn.{HasCellAt, ValueIn}

-- the instance has these cells
abbrev pub HasCells : Net → List ℕ → List Cell → Type 0
HasCells net path cells =
    (i : ℕ) (cell : Cell) → slice_get cells i ≡ Some cell → HasCellAt net path cell

-- the wires of a part have these bits: a part without bits has no wire, any other has one
pub data Bears (net : Net) (path : List ℕ) (h : List Event) : List WireId → List Bool → Type 0 where
  bears_nothing : Bears net path h [] []
  bears_bits : {w : WireId} {bit : Bool} {bits : List Bool}
      → ValueIn net path h w.number (bit ∷ bits) → Bears net path h (w ∷ []) (bit ∷ bits)

-- the wires of parts that stand one after the other have these bits, each part its own
pub data BearEach (net : Net) (path : List ℕ) (h : List Event)
    : List WireId → List (List Bool) → Type 0 where
  bear_none : BearEach net path h [] []
  bear_and : {wires more : List WireId} {bits : List Bool} {values : List (List Bool)}
      → Bears net path h wires bits → BearEach net path h more values
      → BearEach net path h (wires ++ more) (bits ∷ values)
