-- The cells of the primitives on words, by their first two natural arguments, from a wire on, on
-- the wires of their operands.
use Rattle.std.specs.Prelude.{ℕ, zero, suc, ◌+◌, ◌-◌, Bool, false, List, [], ◌∷◌, ◌++◌}
use Rattle.std.specs.Prelude.{replicate, slice_index_or}
use Rattle.chw_base.specs.declared.index.WireId.{WireId}
use Rattle.chw_types.specs.declared.kind.Scalar.{Scalar}
use Rattle.chw_types.specs.declared.kind.Scalar.TheVariants.{U, S, B}
use Rattle.chw_prims.specs.declared.prim.Primitive.{Primitive as Prim}
use Rattle.chw_prims.specs.declared.prim.Primitive.TheVariants.{AddU, AddS, SubU, SubS, MulU, MulS}
use Rattle.chw_prims.specs.declared.prim.Primitive.TheVariants.{XaddU, XaddS, XmulU, XmulS}
use Rattle.chw_prims.specs.declared.prim.Primitive.TheVariants.{AndU, AndS, AndB, OrU, OrS, OrB}
use Rattle.chw_prims.specs.declared.prim.Primitive.TheVariants.{XorU, XorS, XorB, NotU, NotS, NotB}
use Rattle.chw_prims.specs.declared.prim.Primitive.TheVariants.{ShlU, ShlS, ShlB, ShrU, ShrS, ShrB}
use Rattle.chw_prims.specs.declared.prim.Primitive.TheVariants.{EqU, EqS, EqB, LtU as PrimLtU}
use Rattle.chw_prims.specs.declared.prim.Primitive.TheVariants.{LtS as PrimLtS, ExtU, ExtS, ExtB}
use Rattle.chw_prims.specs.declared.prim.Primitive.TheVariants.{TruncU, TruncS, TruncB, Slice}
use Rattle.chw_prims.specs.declared.prim.Primitive.TheVariants.{Join as PrimJoin}
use Rattle.chw_prims.specs.declared.prim.Primitive.TheVariants.{RedAnd as PrimRedAnd}
use Rattle.chw_prims.specs.declared.prim.Primitive.TheVariants.{RedOr as PrimRedOr}
use Rattle.chw_prims.specs.declared.prim.Primitive.TheVariants.{RedXor as PrimRedXor}
use Rattle.chw_prims.specs.declared.prim.Primitive.TheVariants.{PackU, PackS, UnpackU, UnpackS}
use Rattle.netlist.specs.Operators.{operator1, operator2}
use Rattle.netlist.specs.declared.net.Cell.TheVariants.{Const, Copy, Join, Cut, Un, Bin}
use Rattle.netlist.specs.declared.net.Op1.{Op1}
use Rattle.netlist.specs.declared.net.Op1.TheVariants.{Not, RedAnd, RedOr, RedXor}
use Rattle.netlist.specs.declared.net.Op2.{Op2}
use Rattle.netlist.specs.declared.net.Op2.TheVariants.{Add, Sub, Mul, And, Or, Xor, Eq, LtU, LtS}
use Rattle.netlist.specs.declared.net.Op2.TheVariants.{Shl, Shr, Sar}
use Rattle.net_built.specs.Wires.{wire, Piece, one, ◌▸◌, after, last_wire}

-- so many zeros
abbrev pub zeros : ℕ → List Bool
zeros w = replicate w false

-- the one wire of an operand that has one
abbrev pub only : List WireId → WireId
only wires = slice_index_or wires 0 (wire 0)

-- an operator on words of n bits gives a word of n bits
abbrev pub binary : Op2 → (n at : ℕ) → (a b : List WireId) → Piece
binary op n at a b = one n (Bin (wire at) op (only a) (only b))

-- words of n bits are compared; those without bits by a constant, which is what the operator gives
abbrev pub compared : Op2 → (n at : ℕ) → (a b : List WireId) → Piece
compared op zero at a b = one 1 (Const (wire at) (operator2 op [] []))
compared op (suc n) at a b = one 1 (Bin (wire at) op (only a) (only b))

-- a word of n bits is moved by as many places as a word of k bits says; by none where this one is
-- without bits
abbrev pub shifted : Op2 → (n k at : ℕ) → (a b : List WireId) → Piece
shifted op n zero at a b = one n (Copy (wire at) (only a))
shifted op n (suc k) at a b = one n (Bin (wire at) op (only a) (only b))

-- the n bits of a word become one; where there are none, what the operator gives
abbrev pub reduced : Op1 → (n at : ℕ) → List WireId → Piece
reduced op zero at a = one 1 (Const (wire at) (operator1 op []))
reduced op (suc n) at a = one 1 (Un (wire at) op (only a))

-- a word of n bits with m further ones before it: zeros, or copies of the sign of a signed word
-- that has bits
abbrev pub extended : Scalar → (n m at : ℕ) → List WireId → Piece
extended x n zero at a = one n (Copy (wire at) (only a))
extended x zero (suc m) at a = one (suc m) (Const (wire at) (zeros (suc m)))
extended S (suc n) (suc m) at a =
    one 1 (Cut (wire at) (only a) n n)
    ▸ one (suc n + suc m) (Join (wire (at + 1)) (replicate (suc m) (wire at) ++ a))
extended x (suc n) (suc m) at a =
    one (suc m) (Const (wire at) (zeros (suc m)))
    ▸ one (suc n + suc m) (Join (wire (at + 1)) (wire at ∷ a))

-- words of n and of k bits are extended to `width` bits one after the other, and the operator is on
-- both
abbrev pub widened : Scalar → Op2 → (width n k at : ℕ) → (a b : List WireId) → Piece
widened x op width n k at a b =
    let p : Piece = extended x n (width - n) at a in
    let q : Piece = extended x k (width - k) (after at p) b in
    p ▸ q
    ▸ one width (Bin (wire (after (after at p) q)) op (last_wire at p) (last_wire (after at p) q))

-- the n bits above the l low ones
abbrev pub sliced : (l n at : ℕ) → List WireId → Piece
sliced l n at a = one n (Cut (wire at) (only a) (l + n - 1) l)

abbrev pub copied : (n at : ℕ) → List WireId → Piece
copied n at a = one n (Copy (wire at) (only a))

-- the table of the primitives
abbrev pub word_cells : Prim → (n m at : ℕ) → (a b : List WireId) → Piece
word_cells AddU n m at a b = binary Add n at a b
word_cells AddS n m at a b = binary Add n at a b
word_cells SubU n m at a b = binary Sub n at a b
word_cells SubS n m at a b = binary Sub n at a b
word_cells MulU n m at a b = binary Mul n at a b
word_cells MulS n m at a b = binary Mul n at a b
word_cells XaddU n m at a b = widened U Add (n + 1) n n at a b
word_cells XaddS n m at a b = widened S Add (n + 1) n n at a b
word_cells XmulU n m at a b = widened U Mul (n + m) n m at a b
word_cells XmulS n m at a b = widened S Mul (n + m) n m at a b
word_cells AndU n m at a b = binary And n at a b
word_cells AndS n m at a b = binary And n at a b
word_cells AndB n m at a b = binary And n at a b
word_cells OrU n m at a b = binary Or n at a b
word_cells OrS n m at a b = binary Or n at a b
word_cells OrB n m at a b = binary Or n at a b
word_cells XorU n m at a b = binary Xor n at a b
word_cells XorS n m at a b = binary Xor n at a b
word_cells XorB n m at a b = binary Xor n at a b
word_cells NotU n m at a b = one n (Un (wire at) Not (only a))
word_cells NotS n m at a b = one n (Un (wire at) Not (only a))
word_cells NotB n m at a b = one n (Un (wire at) Not (only a))
word_cells ShlU n k at a b = shifted Shl n k at a b
word_cells ShlS n k at a b = shifted Shl n k at a b
word_cells ShlB n k at a b = shifted Shl n k at a b
word_cells ShrU n k at a b = shifted Shr n k at a b
word_cells ShrS n k at a b = shifted Sar n k at a b
word_cells ShrB n k at a b = shifted Shr n k at a b
word_cells EqU n m at a b = compared Eq n at a b
word_cells EqS n m at a b = compared Eq n at a b
word_cells EqB n m at a b = compared Eq n at a b
word_cells PrimLtU n m at a b = compared LtU n at a b
word_cells PrimLtS n m at a b = compared LtS n at a b
word_cells ExtU n m at a b = extended U n m at a
word_cells ExtS n m at a b = extended S n m at a
word_cells ExtB n m at a b = extended B n m at a
word_cells TruncU n m at a b = sliced 0 n at a
word_cells TruncS n m at a b = sliced 0 n at a
word_cells TruncB n m at a b = sliced 0 n at a
word_cells Slice l n at a b = sliced l n at a
word_cells PrimJoin n m at a b = one (n + m) (Join (wire at) (a ++ b))
word_cells PrimRedAnd n m at a b = reduced RedAnd n at a
word_cells PrimRedOr n m at a b = reduced RedOr n at a
word_cells PrimRedXor n m at a b = reduced RedXor n at a
word_cells PackU n m at a b = copied n at a
word_cells PackS n m at a b = copied n at a
word_cells UnpackU n m at a b = copied n at a
word_cells UnpackS n m at a b = copied n at a
word_cells _ n m at a b = record { widths = []; cells = [] }
