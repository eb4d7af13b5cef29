-- Cells of primitives, worked by hand: words of four bits on the wires from 0 on.
use Rattle.std.specs.Prelude.{ℕ, List, [], ◌∷◌}
use Rattle.chw_bits.specs.Bits.{bits_of}
use Rattle.chw_clock.specs.declared.event.Event.{Event}
use Rattle.chw_prims.specs.declared.prim.Primitive.TheVariants.{AddU, ExtS, ShrS}
use Rattle.netlist.specs.declared.net.Net.{Net}
use Rattle.use_laws.specs.ValueIn.{ValueIn}
use Rattle.net_built.specs.Wires.{wire}
use Rattle.cell_bits.specs.Bearing.{HasCells}
use Rattle.cell_bits.specs.WordLaws.{cells_at}

-- 13 + 7 is 4 in four bits
abbrev pub SumOfTwo : Type 0
SumOfTwo =
    (net : Net) (path : List ℕ) (h : List Event)
    → HasCells net path (cells_at AddU (4 ∷ []) 2 (wire 0 ∷ []) (wire 1 ∷ [])).cells
    → ValueIn net path h 0 (bits_of 4 13) → ValueIn net path h 1 (bits_of 4 7)
    → ValueIn net path h 2 (bits_of 4 4)

-- -3 with four more bits: wire 1 has its sign, and wire 2 is 253
abbrev pub SignExtended : Type 0
SignExtended =
    (net : Net) (path : List ℕ) (h : List Event)
    → HasCells net path (cells_at ExtS (4 ∷ 4 ∷ []) 1 (wire 0 ∷ []) []).cells
    → ValueIn net path h 0 (bits_of 4 13) → ValueIn net path h 2 (bits_of 8 253)

-- -3 moved down by the word 1, of two bits, is -2
abbrev pub MovedByWord : Type 0
MovedByWord =
    (net : Net) (path : List ℕ) (h : List Event)
    → HasCells net path (cells_at ShrS (4 ∷ 2 ∷ []) 2 (wire 0 ∷ []) (wire 1 ∷ [])).cells
    → ValueIn net path h 0 (bits_of 4 13) → ValueIn net path h 1 (bits_of 2 1)
    → ValueIn net path h 2 (bits_of 4 14)
