-- The cells of each form of primitive on words read the wires of its operands.
use Rattle.std.specs.Prelude.{replicate}
use Rattle.std.proofs.Common.{◌≡◌, ◌<◌, ℕ, zero, suc, ◌+◌, ◌-◌, List, [], ◌∷◌, ◌++◌, length, Some, slice_get, refl, arith}
use Rattle.chw_base.specs.declared.index.WireId.{WireId}
use Rattle.chw_types.specs.declared.kind.Scalar.{Scalar}
use Rattle.chw_types.specs.declared.kind.Scalar.TheVariants.{U, S, B}
use Rattle.netlist.specs.declared.net.Cell.{Cell}
use Rattle.netlist.specs.declared.net.Cell.TheVariants.{Const, Copy, Join, Cut, Un, Bin}
use Rattle.netlist.specs.declared.net.Net.{Net}
use Rattle.netlist.specs.declared.net.Op1.{Op1}
use Rattle.netlist.specs.declared.net.Op1.TheVariants.{Not}
use Rattle.netlist.specs.declared.net.Op2.{Op2}
use Rattle.net_built.specs.Wires.{wire, Piece, one, ◌▸◌, after, last_wire}
use Rattle.net_built.specs.Words.{only, zeros, binary, compared, shifted, reduced, extended, widened, sliced, copied}
use Rattle.cell_bits.specs.Bearing.{HasCells}
use Rattle.net_means.specs.WireOrder.Awaits.{by_more}
use Rattle.net_means.proofs.WireOrder.Reached.{front_cells, back_cells, Held, only_is, read_only, behind, Ends, one_ends, then_ends}

module _ (net : Net) (path : List ℕ) where
  pub flipped_ends : (n at : ℕ) (a : List WireId) (i : ℕ) (v : WireId) → Held a n → slice_get a i ≡ Some v → HasCells net path (one n (Un (wire at) Not (only a))).cells → Ends net path at (one n (Un (wire at) Not (only a))) v
  flipped_ends n at a i v h e has = one_ends net path n at 0 (Un (wire at) Not (only a)) v (only_is a n i v h e).1 tt refl (read_only a n i v h e) has

  pub copied_ends : (n at : ℕ) (a : List WireId) (i : ℕ) (v : WireId) → Held a n → slice_get a i ≡ Some v → HasCells net path (copied n at a).cells → Ends net path at (copied n at a) v
  copied_ends n at a i v h e has = one_ends net path n at 0 (Copy (wire at) (only a)) v (only_is a n i v h e).1 tt refl (read_only a n i v h e) has

  pub binary_left : (op : Op2) (n at : ℕ) (a b : List WireId) (i : ℕ) (v : WireId) → Held a n → slice_get a i ≡ Some v → HasCells net path (binary op n at a b).cells → Ends net path at (binary op n at a b) v
  binary_left op n at a b i v h e has = one_ends net path n at 0 (Bin (wire at) op (only a) (only b)) v (only_is a n i v h e).1 tt refl (read_only a n i v h e) has

  pub binary_right : (op : Op2) (n at : ℕ) (a b : List WireId) (i : ℕ) (v : WireId) → Held b n → slice_get b i ≡ Some v → HasCells net path (binary op n at a b).cells → Ends net path at (binary op n at a b) v
  binary_right op n at a b i v h e has = one_ends net path n at 1 (Bin (wire at) op (only a) (only b)) v (only_is b n i v h e).1 tt refl (read_only b n i v h e) has

  pub compared_left : (op : Op2) (n at : ℕ) (a b : List WireId) (i : ℕ) (v : WireId) → Held a n → slice_get a i ≡ Some v → HasCells net path (compared op n at a b).cells → Ends net path at (compared op n at a b) v
  compared_left op zero at a b i v h e has = let l = (only_is a 0 i v h e).1 in absurd (omega (arith, l))
  compared_left op (suc n) at a b i v h e has = one_ends net path 1 at 0 (Bin (wire at) op (only a) (only b)) v (omega arith) tt refl (read_only a (suc n) i v h e) has

  pub compared_right : (op : Op2) (n at : ℕ) (a b : List WireId) (i : ℕ) (v : WireId) → Held b n → slice_get b i ≡ Some v → HasCells net path (compared op n at a b).cells → Ends net path at (compared op n at a b) v
  compared_right op zero at a b i v h e has = let l = (only_is b 0 i v h e).1 in absurd (omega (arith, l))
  compared_right op (suc n) at a b i v h e has = one_ends net path 1 at 1 (Bin (wire at) op (only a) (only b)) v (omega arith) tt refl (read_only b (suc n) i v h e) has

  pub shifted_left : (op : Op2) (n k at : ℕ) (a b : List WireId) (i : ℕ) (v : WireId) → Held a n → slice_get a i ≡ Some v → HasCells net path (shifted op n k at a b).cells → Ends net path at (shifted op n k at a b) v
  shifted_left op n zero at a b i v h e has = copied_ends n at a i v h e has
  shifted_left op n (suc k) at a b i v h e has = binary_left op n at a b i v h e has

  pub shifted_right : (op : Op2) (n k at : ℕ) (a b : List WireId) (i : ℕ) (v : WireId) → 0 < n → Held b k → slice_get b i ≡ Some v → HasCells net path (shifted op n k at a b).cells → Ends net path at (shifted op n k at a b) v
  shifted_right op n zero at a b i v some h e has = let l = (only_is b 0 i v h e).1 in absurd (omega (arith, l))
  shifted_right op n (suc k) at a b i v some h e has = one_ends net path n at 1 (Bin (wire at) op (only a) (only b)) v some tt refl (read_only b (suc k) i v h e) has

  pub reduced_ends : (op : Op1) (n at : ℕ) (a : List WireId) (i : ℕ) (v : WireId) → Held a n → slice_get a i ≡ Some v → HasCells net path (reduced op n at a).cells → Ends net path at (reduced op n at a) v
  reduced_ends op zero at a i v h e has = let l = (only_is a 0 i v h e).1 in absurd (omega (arith, l))
  reduced_ends op (suc n) at a i v h e has = one_ends net path 1 at 0 (Un (wire at) op (only a)) v (omega arith) tt refl (read_only a (suc n) i v h e) has

  -- a part of some bits, of an operand of any width
  pub sliced_ends : (l n u at : ℕ) (a : List WireId) (i : ℕ) (v : WireId) → 0 < n → Held a u → slice_get a i ≡ Some v → HasCells net path (sliced l n at a).cells → Ends net path at (sliced l n at a) v
  sliced_ends l n u at a i v some h e has = one_ends net path n at 0 (Cut (wire at) (only a) (l + n - 1) l) v some tt refl (read_only a u i v h e) has

  pub joined_ends : (w at k : ℕ) (wires : List WireId) (v : WireId) → 0 < w → slice_get wires k ≡ Some v → HasCells net path (one w (Join (wire at) wires)).cells → Ends net path at (one w (Join (wire at) wires)) v
  joined_ends w at k wires v some e has = one_ends net path w at k (Join (wire at) wires) v some tt refl e has

  -- bits before an operand with bits
  filled_ends : (x n m at k : ℕ) (cell : Cell) (front a : List WireId) (i : ℕ) (v : WireId) → slice_get a i ≡ Some v → HasCells net path (one (suc x) cell ▸ one (suc n + suc m) (Join (wire (at + 1)) (front ++ a))).cells
      → Ends net path at (one (suc x) cell ▸ one (suc n + suc m) (Join (wire (at + 1)) (front ++ a))) v
  filled_ends x n m at k cell front a i v e has =
      let p : Piece = one (suc x) cell in
      let q : Piece = one (suc n + suc m) (Join (wire (at + 1)) (front ++ a)) in
      then_ends net path at p q v (joined_ends (suc n + suc m) (at + 1) (length front + i) (front ++ a) v (omega arith) (behind front a i (length front + i) v refl e) (back_cells net path p.cells q.cells has))

  pub extended_ends : (s : Scalar) (n m at : ℕ) (a : List WireId) (i : ℕ) (v : WireId) → Held a n → slice_get a i ≡ Some v → HasCells net path (extended s n m at a).cells → Ends net path at (extended s n m at a) v
  extended_ends s n zero at a i v h e has = copied_ends n at a i v h e has
  extended_ends s zero (suc m) at a i v h e has = let l = (only_is a 0 i v h e).1 in absurd (omega (arith, l))
  extended_ends U (suc n) (suc m) at a i v h e has = filled_ends m n m at 0 (Const (wire at) (zeros (suc m))) (wire at ∷ []) a i v e has
  extended_ends B (suc n) (suc m) at a i v h e has = filled_ends m n m at 0 (Const (wire at) (zeros (suc m))) (wire at ∷ []) a i v e has
  extended_ends S (suc n) (suc m) at a i v h e has = filled_ends 0 n m at 0 (Cut (wire at) (only a) n n) (replicate (suc m) (wire at)) a i v e has

  pub widened_left : (s : Scalar) (op : Op2) (width n k at : ℕ) (a b : List WireId) (i : ℕ) (v : WireId) → 0 < width → Held a n → slice_get a i ≡ Some v → HasCells net path (widened s op width n k at a b).cells → Ends net path at (widened s op width n k at a b) v
  widened_left s op width n k at a b i v some h e has =
      let p : Piece = extended s n (width - n) at a in
      let q : Piece = extended s k (width - k) (after at p) b in
      let c : ℕ = after (after at p) q in
      let r : Piece = one width (Bin (wire c) op (last_wire at p) (last_wire (after at p) q)) in
      let rest : HasCells net path (q.cells ++ r.cells) = back_cells net path p.cells (q.cells ++ r.cells) has in
      let last : Ends net path c r (last_wire at p) = one_ends net path width c 0 (Bin (wire c) op (last_wire at p) (last_wire (after at p) q)) (last_wire at p) some tt refl refl (back_cells net path q.cells r.cells rest) in
      let first : Ends net path at p v = extended_ends s n (width - n) at a i v h e (front_cells net path p.cells (q.cells ++ r.cells) has) in
      then_ends net path at p (q ▸ r) v (then_ends net path (after at p) q r v (by_more last first))

  pub widened_right : (s : Scalar) (op : Op2) (width n k at : ℕ) (a b : List WireId) (i : ℕ) (v : WireId) → 0 < width → Held b k → slice_get b i ≡ Some v → HasCells net path (widened s op width n k at a b).cells → Ends net path at (widened s op width n k at a b) v
  widened_right s op width n k at a b i v some h e has =
      let p : Piece = extended s n (width - n) at a in
      let q : Piece = extended s k (width - k) (after at p) b in
      let c : ℕ = after (after at p) q in
      let r : Piece = one width (Bin (wire c) op (last_wire at p) (last_wire (after at p) q)) in
      let rest : HasCells net path (q.cells ++ r.cells) = back_cells net path p.cells (q.cells ++ r.cells) has in
      let last : Ends net path c r (last_wire (after at p) q) = one_ends net path width c 1 (Bin (wire c) op (last_wire at p) (last_wire (after at p) q)) (last_wire (after at p) q) some tt refl refl (back_cells net path q.cells r.cells rest) in
      let second : Ends net path (after at p) q v = extended_ends s k (width - k) (after at p) b i v h e (front_cells net path q.cells r.cells rest) in
      then_ends net path at p (q ▸ r) v (then_ends net path (after at p) q r v (by_more last second))
