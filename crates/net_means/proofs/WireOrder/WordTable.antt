-- The primitives on words, a line for each: their cells read the wires of both operands.
use Rattle.std.proofs.Common.{◌≡◌, ◌<◌, ℕ, ◌+◌, List, length, Some, slice_get, refl, subst, arith}
use Rattle.chw_base.specs.declared.index.WireId.{WireId}
use Rattle.chw_types.specs.declared.kind.Scalar.TheVariants.{U, S, B}
use Rattle.chw_prims.specs.Schemas.{row_of}
use Rattle.chw_prims.specs.declared.prim.Primitive.{Primitive as Prim}
use Rattle.chw_prims.specs.declared.prim.Primitive.TheVariants.{AddU, AddS, SubU, SubS, MulU, MulS, XaddU, XaddS, XmulU, XmulS, AndU, AndS, AndB, OrU, OrS, OrB, XorU, XorS, XorB, NotU, NotS, NotB, ShlU, ShlS, ShlB, ShrU, ShrS, ShrB, EqU, EqS, EqB}
use Rattle.chw_prims.specs.declared.prim.Primitive.TheVariants.{LtU as PrimLtU, LtS as PrimLtS, ExtU, ExtS, ExtB, TruncU, TruncS, TruncB, Slice, Join as PrimJoin, RedAnd as PrimRedAnd, RedOr as PrimRedOr, RedXor as PrimRedXor, PackU, PackS, UnpackU, UnpackS}
use Rattle.chw_prims.specs.declared.row.Row.{Row}
use Rattle.chw_prims.specs.declared.row.Row.TheVariants.{Binary, WideSum, WideProduct, Shift, Compare, Truncate, Cut, Joined}
use Rattle.netlist.specs.declared.net.Net.{Net}
use Rattle.netlist.specs.declared.net.Op1.TheVariants.{RedAnd, RedOr, RedXor}
use Rattle.netlist.specs.declared.net.Op2.TheVariants.{Add, Sub, Mul, And, Or, Xor, Eq, LtU, LtS, Shl, Shr, Sar}
use Rattle.rewriting.specs.Spots.{IsOnWords}
use Rattle.net_built.specs.Words.{word_cells}
use Rattle.cell_bits.specs.Bearing.{HasCells}
use Rattle.net_means.proofs.WireOrder.Reached.{Held, only_is, behind, in_front, Ends}
use Rattle.net_means.proofs.WireOrder.WordForms.{flipped_ends, copied_ends, binary_left, binary_right, compared_left, compared_right, shifted_left, shifted_right, reduced_ends, sliced_ends, joined_ends, extended_ends, widened_left, widened_right}

-- by its first two natural arguments a line that gives a word of w bits has a first operand of u
abbrev pub First : Row → (n m w u : ℕ) → Type 0
First (Truncate x) n m w u = n ≡ w
First Cut n m w u = m ≡ w
First _ n m w u = u ≡ n

-- and a second one
abbrev pub Second : Row → (n m w u : ℕ) → Type 0
Second (Binary x) n m w u = u ≡ n
Second (WideSum x) n m w u = u ≡ n
Second (WideProduct x) n m w u = u ≡ m
Second (Shift x) n m w u = (u ≡ m) × (n ≡ w)
Second (Compare x) n m w u = u ≡ n
Second Joined n m w u = u ≡ m
Second _ n m w u = ⊥

module _ (net : Net) (path : List ℕ) where
  at_width : (wires : List WireId) (u n : ℕ) → u ≡ n → Held wires u → Held wires n
  at_width wires u n e h = subst (Held wires) e h

  -- a sum of operands is wide where one has bits
  join_left : (n m at : ℕ) (a b : List WireId) (i : ℕ) (v : WireId) → Held a n → slice_get a i ≡ Some v → HasCells net path (word_cells PrimJoin n m at a b).cells → Ends net path at (word_cells PrimJoin n m at a b) v
  join_left n m at a b i v h e has = let l = (only_is a n i v h e).1 in joined_ends net path (n + m) at i _ v (omega (arith, l)) (in_front a b i v e) has

  join_right : (n m at : ℕ) (a b : List WireId) (i : ℕ) (v : WireId) → Held b m → slice_get b i ≡ Some v → HasCells net path (word_cells PrimJoin n m at a b).cells → Ends net path at (word_cells PrimJoin n m at a b) v
  join_right n m at a b i v h e has = let l = (only_is b m i v h e).1 in joined_ends net path (n + m) at (length a + i) _ v (omega (arith, l)) (behind a b i (length a + i) v refl e) has

  wide : (n m : ℕ) (a : List WireId) (i : ℕ) (v : WireId) → Held a n → slice_get a i ≡ Some v → 0 < n + m
  wide n m a i v h e = let l = (only_is a n i v h e).1 in omega (arith, l)

  wide_right : (n m : ℕ) (b : List WireId) (i : ℕ) (v : WireId) → Held b m → slice_get b i ≡ Some v → 0 < n + m
  wide_right n m b i v h e = let l = (only_is b m i v h e).1 in omega (arith, l)

  abbrev Left : Prim → Type 0
  Left q = (n m w u at : ℕ) (a b : List WireId) (i : ℕ) (v : WireId) → First (row_of q) n m w u → 0 < w → Held a u → slice_get a i ≡ Some v → HasCells net path (word_cells q n m at a b).cells → Ends net path at (word_cells q n m at a b) v

  pub left_ends : (q : Prim) → IsOnWords q → Left q
  left_ends AddU on n m w u at a b i v t l h e has = binary_left net path Add n at a b i v (at_width a u n t h) e has
  left_ends AddS on n m w u at a b i v t l h e has = binary_left net path Add n at a b i v (at_width a u n t h) e has
  left_ends SubU on n m w u at a b i v t l h e has = binary_left net path Sub n at a b i v (at_width a u n t h) e has
  left_ends SubS on n m w u at a b i v t l h e has = binary_left net path Sub n at a b i v (at_width a u n t h) e has
  left_ends MulU on n m w u at a b i v t l h e has = binary_left net path Mul n at a b i v (at_width a u n t h) e has
  left_ends MulS on n m w u at a b i v t l h e has = binary_left net path Mul n at a b i v (at_width a u n t h) e has
  left_ends XaddU on n m w u at a b i v t l h e has = widened_left net path U Add (n + 1) n n at a b i v (omega arith) (at_width a u n t h) e has
  left_ends XaddS on n m w u at a b i v t l h e has = widened_left net path S Add (n + 1) n n at a b i v (omega arith) (at_width a u n t h) e has
  left_ends XmulU on n m w u at a b i v t l h e has = widened_left net path U Mul (n + m) n m at a b i v (wide n m a i v (at_width a u n t h) e) (at_width a u n t h) e has
  left_ends XmulS on n m w u at a b i v t l h e has = widened_left net path S Mul (n + m) n m at a b i v (wide n m a i v (at_width a u n t h) e) (at_width a u n t h) e has
  left_ends AndU on n m w u at a b i v t l h e has = binary_left net path And n at a b i v (at_width a u n t h) e has
  left_ends AndS on n m w u at a b i v t l h e has = binary_left net path And n at a b i v (at_width a u n t h) e has
  left_ends AndB on n m w u at a b i v t l h e has = binary_left net path And n at a b i v (at_width a u n t h) e has
  left_ends OrU on n m w u at a b i v t l h e has = binary_left net path Or n at a b i v (at_width a u n t h) e has
  left_ends OrS on n m w u at a b i v t l h e has = binary_left net path Or n at a b i v (at_width a u n t h) e has
  left_ends OrB on n m w u at a b i v t l h e has = binary_left net path Or n at a b i v (at_width a u n t h) e has
  left_ends XorU on n m w u at a b i v t l h e has = binary_left net path Xor n at a b i v (at_width a u n t h) e has
  left_ends XorS on n m w u at a b i v t l h e has = binary_left net path Xor n at a b i v (at_width a u n t h) e has
  left_ends XorB on n m w u at a b i v t l h e has = binary_left net path Xor n at a b i v (at_width a u n t h) e has
  left_ends NotU on n m w u at a b i v t l h e has = flipped_ends net path n at a i v (at_width a u n t h) e has
  left_ends NotS on n m w u at a b i v t l h e has = flipped_ends net path n at a i v (at_width a u n t h) e has
  left_ends NotB on n m w u at a b i v t l h e has = flipped_ends net path n at a i v (at_width a u n t h) e has
  left_ends ShlU on n m w u at a b i v t l h e has = shifted_left net path Shl n m at a b i v (at_width a u n t h) e has
  left_ends ShlS on n m w u at a b i v t l h e has = shifted_left net path Shl n m at a b i v (at_width a u n t h) e has
  left_ends ShlB on n m w u at a b i v t l h e has = shifted_left net path Shl n m at a b i v (at_width a u n t h) e has
  left_ends ShrU on n m w u at a b i v t l h e has = shifted_left net path Shr n m at a b i v (at_width a u n t h) e has
  left_ends ShrS on n m w u at a b i v t l h e has = shifted_left net path Sar n m at a b i v (at_width a u n t h) e has
  left_ends ShrB on n m w u at a b i v t l h e has = shifted_left net path Shr n m at a b i v (at_width a u n t h) e has
  left_ends EqU on n m w u at a b i v t l h e has = compared_left net path Eq n at a b i v (at_width a u n t h) e has
  left_ends EqS on n m w u at a b i v t l h e has = compared_left net path Eq n at a b i v (at_width a u n t h) e has
  left_ends EqB on n m w u at a b i v t l h e has = compared_left net path Eq n at a b i v (at_width a u n t h) e has
  left_ends PrimLtU on n m w u at a b i v t l h e has = compared_left net path LtU n at a b i v (at_width a u n t h) e has
  left_ends PrimLtS on n m w u at a b i v t l h e has = compared_left net path LtS n at a b i v (at_width a u n t h) e has
  left_ends ExtU on n m w u at a b i v t l h e has = extended_ends net path U n m at a i v (at_width a u n t h) e has
  left_ends ExtS on n m w u at a b i v t l h e has = extended_ends net path S n m at a i v (at_width a u n t h) e has
  left_ends ExtB on n m w u at a b i v t l h e has = extended_ends net path B n m at a i v (at_width a u n t h) e has
  left_ends TruncU on n m w u at a b i v t l h e has = sliced_ends net path 0 n u at a i v (omega (arith, t, l)) h e has
  left_ends TruncS on n m w u at a b i v t l h e has = sliced_ends net path 0 n u at a i v (omega (arith, t, l)) h e has
  left_ends TruncB on n m w u at a b i v t l h e has = sliced_ends net path 0 n u at a i v (omega (arith, t, l)) h e has
  left_ends Slice on n m w u at a b i v t l h e has = sliced_ends net path n m u at a i v (omega (arith, t, l)) h e has
  left_ends PrimJoin on n m w u at a b i v t l h e has = join_left n m at a b i v (at_width a u n t h) e has
  left_ends PrimRedAnd on n m w u at a b i v t l h e has = reduced_ends net path RedAnd n at a i v (at_width a u n t h) e has
  left_ends PrimRedOr on n m w u at a b i v t l h e has = reduced_ends net path RedOr n at a i v (at_width a u n t h) e has
  left_ends PrimRedXor on n m w u at a b i v t l h e has = reduced_ends net path RedXor n at a i v (at_width a u n t h) e has
  left_ends PackU on n m w u at a b i v t l h e has = copied_ends net path n at a i v (at_width a u n t h) e has
  left_ends PackS on n m w u at a b i v t l h e has = copied_ends net path n at a i v (at_width a u n t h) e has
  left_ends UnpackU on n m w u at a b i v t l h e has = copied_ends net path n at a i v (at_width a u n t h) e has
  left_ends UnpackS on n m w u at a b i v t l h e has = copied_ends net path n at a i v (at_width a u n t h) e has
  left_ends _ on n m w u at a b i v t l h e has = absurd on

  abbrev Right : Prim → Type 0
  Right q = (n m w u at : ℕ) (a b : List WireId) (i : ℕ) (v : WireId) → Second (row_of q) n m w u → 0 < w → Held b u → slice_get b i ≡ Some v → HasCells net path (word_cells q n m at a b).cells → Ends net path at (word_cells q n m at a b) v

  pub right_ends : (q : Prim) → IsOnWords q → Right q
  right_ends AddU on n m w u at a b i v t l h e has = binary_right net path Add n at a b i v (at_width b u n t h) e has
  right_ends AddS on n m w u at a b i v t l h e has = binary_right net path Add n at a b i v (at_width b u n t h) e has
  right_ends SubU on n m w u at a b i v t l h e has = binary_right net path Sub n at a b i v (at_width b u n t h) e has
  right_ends SubS on n m w u at a b i v t l h e has = binary_right net path Sub n at a b i v (at_width b u n t h) e has
  right_ends MulU on n m w u at a b i v t l h e has = binary_right net path Mul n at a b i v (at_width b u n t h) e has
  right_ends MulS on n m w u at a b i v t l h e has = binary_right net path Mul n at a b i v (at_width b u n t h) e has
  right_ends XaddU on n m w u at a b i v t l h e has = widened_right net path U Add (n + 1) n n at a b i v (omega arith) (at_width b u n t h) e has
  right_ends XaddS on n m w u at a b i v t l h e has = widened_right net path S Add (n + 1) n n at a b i v (omega arith) (at_width b u n t h) e has
  right_ends XmulU on n m w u at a b i v t l h e has = widened_right net path U Mul (n + m) n m at a b i v (wide_right n m b i v (at_width b u m t h) e) (at_width b u m t h) e has
  right_ends XmulS on n m w u at a b i v t l h e has = widened_right net path S Mul (n + m) n m at a b i v (wide_right n m b i v (at_width b u m t h) e) (at_width b u m t h) e has
  right_ends AndU on n m w u at a b i v t l h e has = binary_right net path And n at a b i v (at_width b u n t h) e has
  right_ends AndS on n m w u at a b i v t l h e has = binary_right net path And n at a b i v (at_width b u n t h) e has
  right_ends AndB on n m w u at a b i v t l h e has = binary_right net path And n at a b i v (at_width b u n t h) e has
  right_ends OrU on n m w u at a b i v t l h e has = binary_right net path Or n at a b i v (at_width b u n t h) e has
  right_ends OrS on n m w u at a b i v t l h e has = binary_right net path Or n at a b i v (at_width b u n t h) e has
  right_ends OrB on n m w u at a b i v t l h e has = binary_right net path Or n at a b i v (at_width b u n t h) e has
  right_ends XorU on n m w u at a b i v t l h e has = binary_right net path Xor n at a b i v (at_width b u n t h) e has
  right_ends XorS on n m w u at a b i v t l h e has = binary_right net path Xor n at a b i v (at_width b u n t h) e has
  right_ends XorB on n m w u at a b i v t l h e has = binary_right net path Xor n at a b i v (at_width b u n t h) e has
  right_ends NotU on n m w u at a b i v t l h e has = absurd t
  right_ends NotS on n m w u at a b i v t l h e has = absurd t
  right_ends NotB on n m w u at a b i v t l h e has = absurd t
  right_ends ShlU on n m w u at a b i v t l h e has = let some = t.1 in shifted_right net path Shl n m at a b i v (omega (arith, some, l)) (at_width b u m t.0 h) e has
  right_ends ShlS on n m w u at a b i v t l h e has = let some = t.1 in shifted_right net path Shl n m at a b i v (omega (arith, some, l)) (at_width b u m t.0 h) e has
  right_ends ShlB on n m w u at a b i v t l h e has = let some = t.1 in shifted_right net path Shl n m at a b i v (omega (arith, some, l)) (at_width b u m t.0 h) e has
  right_ends ShrU on n m w u at a b i v t l h e has = let some = t.1 in shifted_right net path Shr n m at a b i v (omega (arith, some, l)) (at_width b u m t.0 h) e has
  right_ends ShrS on n m w u at a b i v t l h e has = let some = t.1 in shifted_right net path Sar n m at a b i v (omega (arith, some, l)) (at_width b u m t.0 h) e has
  right_ends ShrB on n m w u at a b i v t l h e has = let some = t.1 in shifted_right net path Shr n m at a b i v (omega (arith, some, l)) (at_width b u m t.0 h) e has
  right_ends EqU on n m w u at a b i v t l h e has = compared_right net path Eq n at a b i v (at_width b u n t h) e has
  right_ends EqS on n m w u at a b i v t l h e has = compared_right net path Eq n at a b i v (at_width b u n t h) e has
  right_ends EqB on n m w u at a b i v t l h e has = compared_right net path Eq n at a b i v (at_width b u n t h) e has
  right_ends PrimLtU on n m w u at a b i v t l h e has = compared_right net path LtU n at a b i v (at_width b u n t h) e has
  right_ends PrimLtS on n m w u at a b i v t l h e has = compared_right net path LtS n at a b i v (at_width b u n t h) e has
  right_ends PrimJoin on n m w u at a b i v t l h e has = join_right n m at a b i v (at_width b u m t h) e has
  right_ends ExtU on n m w u at a b i v t l h e has = absurd t
  right_ends ExtS on n m w u at a b i v t l h e has = absurd t
  right_ends ExtB on n m w u at a b i v t l h e has = absurd t
  right_ends TruncU on n m w u at a b i v t l h e has = absurd t
  right_ends TruncS on n m w u at a b i v t l h e has = absurd t
  right_ends TruncB on n m w u at a b i v t l h e has = absurd t
  right_ends Slice on n m w u at a b i v t l h e has = absurd t
  right_ends PrimRedAnd on n m w u at a b i v t l h e has = absurd t
  right_ends PrimRedOr on n m w u at a b i v t l h e has = absurd t
  right_ends PrimRedXor on n m w u at a b i v t l h e has = absurd t
  right_ends PackU on n m w u at a b i v t l h e has = absurd t
  right_ends PackS on n m w u at a b i v t l h e has = absurd t
  right_ends UnpackU on n m w u at a b i v t l h e has = absurd t
  right_ends UnpackS on n m w u at a b i v t l h e has = absurd t
  right_ends _ on n m w u at a b i v t l h e has = absurd on
