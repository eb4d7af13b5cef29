-- What is promised of the cells of primitives on words.
use Rattle.std.specs.Prelude.{◌≡◌, ℕ, Bool, List, [], ◌∷◌, Some, length, slice_index}
use Rattle.chw_base.specs.declared.index.WireId.{WireId}
use Rattle.chw_clock.specs.declared.event.Event.{Event}
use Rattle.chw_prims.specs.declared.prim.Primitive.{Primitive as Prim}
use Rattle.netlist.specs.declared.net.Net.{Net}
use Rattle.prim_bits.specs.Values.{value_of}
use Rattle.rewriting.specs.Spots.{IsOnWords}
use Rattle.net_built.specs.Wires.{Piece, last_wires}
use Rattle.net_built.specs.Words.{word_cells}
use Rattle.cell_bits.specs.Bearing.{HasCells, Bears}

-- the cells of a primitive at these naturals, from wire n on
abbrev pub cells_at : Prim → List ℕ → (n : ℕ) → (a b : List WireId) → Piece
cells_at p nats n a b = word_cells p (slice_index nats 0) (slice_index nats 1) n a b

-- a primitive with one operand: where the operand's wires have the word's bits, the last wire of
-- its cells has those of the value
abbrev pub OneOperand : Type 0
OneOperand =
    (net : Net) (path : List ℕ) (h : List Event) (p : Prim) (nats : List ℕ) (n : ℕ)
    (a b : List WireId) (x bits : List Bool)
    → IsOnWords p → value_of p nats (x ∷ []) ≡ Some bits → Bears net path h a x
    → HasCells net path (cells_at p nats n a b).cells
    → Bears net path h (last_wires n (cells_at p nats n a b) (length bits ∷ [])) bits

-- the same of one with two
abbrev pub TwoOperands : Type 0
TwoOperands =
    (net : Net) (path : List ℕ) (h : List Event) (p : Prim) (nats : List ℕ) (n : ℕ)
    (a b : List WireId) (x y bits : List Bool)
    → IsOnWords p → value_of p nats (x ∷ y ∷ []) ≡ Some bits
    → Bears net path h a x → Bears net path h b y
    → HasCells net path (cells_at p nats n a b).cells
    → Bears net path h (last_wires n (cells_at p nats n a b) (length bits ∷ [])) bits
