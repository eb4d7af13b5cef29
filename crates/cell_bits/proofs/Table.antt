-- The primitives on words, a line for each.
use Rattle.std.proofs.Common.{◌≡◌, ℕ, ◌+◌, ◌-◌, ◌<◌, ◌≤◌, arith, Bool, ◌&&◌, ◌||◌, List, [], ◌∷◌, length, map, get_or, Some, refl, sym, ap, subst, ◌∙◌}
use Rattle.std.proofs.Math.Nat.{div-one}
use Rattle.chw_base.specs.declared.index.WireId.{WireId}
use Rattle.chw_bits.specs.Bits.{bits_of, cut_of, number_of}
use Rattle.chw_bits.specs.Bitwise.{bit_by_bit, differ}
use Rattle.chw_bits.proofs.Numbers.{length-bits_of}
use Rattle.chw_clock.specs.declared.event.Event.{Event}
use Rattle.chw_types.specs.declared.kind.Scalar.TheVariants.{U, S, B}
use Rattle.chw_prims.specs.Schemas.{row_of}
use Rattle.chw_prims.specs.declared.prim.Primitive.{Primitive as Prim}
use Rattle.chw_prims.specs.declared.prim.Primitive.TheVariants.{AddU, AddS, SubU, SubS, MulU, MulS, XaddU, XaddS, XmulU, XmulS, AndU, AndS, AndB, OrU, OrS, OrB, XorU, XorS, XorB, NotU, NotS, NotB, ShlU, ShlS, ShlB, ShrU, ShrS, ShrB, EqU, EqS, EqB}
use Rattle.chw_prims.specs.declared.prim.Primitive.TheVariants.{LtU as PrimLtU, LtS as PrimLtS, ExtU, ExtS, ExtB, TruncU, TruncS, TruncB, Slice, Join as PrimJoin, RedAnd as PrimRedAnd, RedOr as PrimRedOr, RedXor as PrimRedXor, PackU, PackS, UnpackU, UnpackS}
use Rattle.chw_prims.specs.declared.row.Row.{Row}
use Rattle.chw_prims.specs.declared.row.Row.TheVariants.{Binary, WideSum, WideProduct, Unary, Shift, Compare, Extend, Truncate, Cut, Joined, Reduce, Packed, Unpacked}
use Rattle.netlist.specs.declared.net.Net.{Net}
use Rattle.netlist.specs.declared.net.Op1.TheVariants.{RedAnd, RedOr, RedXor}
use Rattle.netlist.specs.declared.net.Op2.TheVariants.{Add, Sub, Mul, And, Or, Xor, Eq, LtU, LtS, Shl, Shr, Sar}
use Rattle.prim_bits.specs.Values.{result_of, value_of}
use Rattle.prim_bits.specs.Widths.{argument_widths}
use Rattle.prim_bits.proofs.Exact.{middle_is_cut}
use Rattle.prim_bits.proofs.Lengths.{length-bit_by_bit}
use Rattle.prim_bits.proofs.Taken.{taken_from_value}
use Rattle.net_built.specs.Words.{word_cells}
use Rattle.cell_bits.specs.Bearing.{Bears}
use Rattle.cell_bits.proofs.Forms.{IsOperand, AreOperands, Gives, binary_bears, compared_bears, shifted_bears, reduced_bears, flipped_bears, copied_bears, sliced_bears, joined_bears, extended_bears, widened_bears}
use Rattle.cell_bits.proofs.Results.{sum_given, difference_given, product_given, wide_sum_given, wide_product_given, raised_given, lowered_given, signed_lowered_given, raised_by_none, lowered_by_none, signed_lowered_by_none, equal_given}

-- an operand that is at least this wide
pub record IsAtLeast (net : Net) (path : List ℕ) (h : List Event) (a : List WireId) (x : List Bool) (n : ℕ) : Type 0 where
  pub bears : Bears net path h a x
  pub fits : n ≤ length x

-- what the operands of a line of the table are, by its first two natural arguments
abbrev pub Operands : Net → List ℕ → List Event → Row → (n m : ℕ) → (a b : List WireId) → (x y : List Bool) → Type 0
Operands net path h (Binary s) n m a b x y = AreOperands net path h a b x y n n
Operands net path h (WideSum s) n m a b x y = AreOperands net path h a b x y n n
Operands net path h (WideProduct s) n m a b x y = AreOperands net path h a b x y n m
Operands net path h (Unary s) n m a b x y = IsOperand net path h a x n
Operands net path h (Shift s) n m a b x y = AreOperands net path h a b x y n m
Operands net path h (Compare s) n m a b x y = AreOperands net path h a b x y n n
Operands net path h (Extend s) n m a b x y = IsOperand net path h a x n
Operands net path h (Truncate s) n m a b x y = IsAtLeast net path h a x n
Operands net path h Cut n m a b x y = IsAtLeast net path h a x (n + m)
Operands net path h Joined n m a b x y = AreOperands net path h a b x y n m
Operands net path h Reduce n m a b x y = IsOperand net path h a x n
Operands net path h (Packed s) n m a b x y = IsOperand net path h a x n
Operands net path h (Unpacked s) n m a b x y = IsOperand net path h a x n
Operands net path h _ n m a b x y = ⊥

-- one word that a primitive takes, and two
one_operand : {net : Net} {path : List ℕ} {h : List Event} {a : List WireId} (n : ℕ) (args : List (List Bool)) → Some (n ∷ []) ≡ Some (map length args) → Bears net path h a (get_or args 0 []) → IsOperand net path h a (get_or args 0 []) n
one_operand n [] e left = cc
one_operand n (x ∷ []) e left = record { bears = left; wide = cc }
one_operand n (x ∷ y ∷ more) e left = cc

two_operands : {net : Net} {path : List ℕ} {h : List Event} {a b : List WireId} (n m : ℕ) (args : List (List Bool)) → Some (n ∷ m ∷ []) ≡ Some (map length args) → Bears net path h a (get_or args 0 []) → (1 < length args → Bears net path h b (get_or args 1 []))
    → AreOperands net path h a b (get_or args 0 []) (get_or args 1 []) n m
two_operands n m [] e left right = cc
two_operands n m (x ∷ []) e left right = cc
two_operands n m (x ∷ y ∷ []) e left right = record { left = record { bears = left; wide = cc }; right = record { bears = right (omega arith); wide = cc } }
two_operands n m (x ∷ y ∷ z ∷ more) e left right = cc

-- the operands of words that a line of the table takes
pub operands : {net : Net} {path : List ℕ} {h : List Event} {a b : List WireId} (row : Row) (nats : List ℕ) (args : List (List Bool)) → argument_widths row nats ≡ Some (map length args) → Bears net path h a (get_or args 0 []) → (1 < length args → Bears net path h b (get_or args 1 []))
    → Operands net path h row (get_or nats 0 0) (get_or nats 1 0) a b (get_or args 0 []) (get_or args 1 [])
operands (Binary s) (n ∷ []) args e left right = two_operands n n args e left right
operands (WideSum s) (n ∷ []) args e left right = two_operands n n args e left right
operands (WideProduct s) (n ∷ m ∷ []) args e left right = two_operands n m args e left right
operands (Unary s) (n ∷ []) args e left right = one_operand n args e left
operands (Shift s) (n ∷ k ∷ []) args e left right = two_operands n k args e left right
operands (Compare s) (n ∷ []) args e left right = two_operands n n args e left right
operands (Extend s) (n ∷ m ∷ []) args e left right = one_operand n args e left
operands (Truncate s) (n ∷ m ∷ []) args e left right =
    let o = one_operand (n + m) args e left in record { bears = o.bears; fits = omega (arith, o.wide) }
operands Cut (l ∷ n ∷ u ∷ []) args e left right =
    let o = one_operand (u + n + l) args e left in record { bears = o.bears; fits = omega (arith, o.wide) }
operands Joined (n ∷ m ∷ []) args e left right = two_operands n m args e left right
operands Reduce (n ∷ []) args e left right = one_operand n args e left
operands (Packed s) (n ∷ []) args e left right = one_operand n args e left
operands (Unpacked s) (n ∷ []) args e left right = one_operand n args e left
operands _ _ args e left right = cc

-- the lowest bits of a word
lowest_bits : (n : ℕ) (x : List Bool) → n ≤ length x → 0 < n → cut_of (0 + n - 1) 0 x ≡ bits_of n (number_of x)
lowest_bits n x fits some =
    let le : 0 + n ≤ length x = omega (arith, fits) in
    sym (middle_is_cut 0 n x some le) ∙ ap (bits_of n) (div-one (number_of x))

-- a word that is made bit by bit of two operands
bitwise_wide : {net : Net} {path : List ℕ} {h : List Event} {a b : List WireId} {x y : List Bool} {n : ℕ} (of : Bool → Bool → Bool) → AreOperands net path h a b x y n n → length (bit_by_bit of x y) ≡ n
bitwise_wide {x} {y} of o = length-bit_by_bit of x y (o.left.wide ∙ sym o.right.wide) ∙ o.left.wide

-- the bits of the wire of each primitive's cells
pub value_bears : {net : Net} {path : List ℕ} {h : List Event} (p : Prim) (n m at : ℕ) (a b : List WireId) (x y : List Bool) → Operands net path h (row_of p) n m a b x y → Gives net path h at (word_cells p n m at a b) (result_of p n m x y)
value_bears AddU n m at a b x y o = binary_bears Add at _ o (sum_given U n x y o.left.wide o.right.wide) (length-bits_of n _)
value_bears AddS n m at a b x y o = binary_bears Add at _ o (sum_given S n x y o.left.wide o.right.wide) (length-bits_of n _)
value_bears SubU n m at a b x y o = binary_bears Sub at _ o (difference_given U n x y o.left.wide o.right.wide) (length-bits_of n _)
value_bears SubS n m at a b x y o = binary_bears Sub at _ o (difference_given S n x y o.left.wide o.right.wide) (length-bits_of n _)
value_bears MulU n m at a b x y o = binary_bears Mul at _ o (product_given U n x y o.left.wide o.right.wide) (length-bits_of n _)
value_bears MulS n m at a b x y o = binary_bears Mul at _ o (product_given S n x y o.left.wide o.right.wide) (length-bits_of n _)
value_bears XaddU n m at a b x y o = widened_bears U Add (n + 1) n n at _ (omega arith) (omega arith) o (wide_sum_given U (n + 1) x y) (length-bits_of (n + 1) _)
value_bears XaddS n m at a b x y o = widened_bears S Add (n + 1) n n at _ (omega arith) (omega arith) o (wide_sum_given S (n + 1) x y) (length-bits_of (n + 1) _)
value_bears XmulU n m at a b x y o = widened_bears U Mul (n + m) n m at _ (omega arith) (omega arith) o (wide_product_given U (n + m) x y) (length-bits_of (n + m) _)
value_bears XmulS n m at a b x y o = widened_bears S Mul (n + m) n m at _ (omega arith) (omega arith) o (wide_product_given S (n + m) x y) (length-bits_of (n + m) _)
value_bears AndU n m at a b x y o = binary_bears And at _ o refl (bitwise_wide (λ x y. x && y) o)
value_bears AndS n m at a b x y o = binary_bears And at _ o refl (bitwise_wide (λ x y. x && y) o)
value_bears AndB n m at a b x y o = binary_bears And at _ o refl (bitwise_wide (λ x y. x && y) o)
value_bears OrU n m at a b x y o = binary_bears Or at _ o refl (bitwise_wide (λ x y. x || y) o)
value_bears OrS n m at a b x y o = binary_bears Or at _ o refl (bitwise_wide (λ x y. x || y) o)
value_bears OrB n m at a b x y o = binary_bears Or at _ o refl (bitwise_wide (λ x y. x || y) o)
value_bears XorU n m at a b x y o = binary_bears Xor at _ o refl (bitwise_wide differ o)
value_bears XorS n m at a b x y o = binary_bears Xor at _ o refl (bitwise_wide differ o)
value_bears XorB n m at a b x y o = binary_bears Xor at _ o refl (bitwise_wide differ o)
value_bears NotU n m at a b x y o = flipped_bears at o
value_bears NotS n m at a b x y o = flipped_bears at o
value_bears NotB n m at a b x y o = flipped_bears at o
value_bears ShlU n k at a b x y o = shifted_bears k Shl at _ o (raised_by_none x) (raised_given U n x y o.left.wide) (length-bits_of n _)
value_bears ShlS n k at a b x y o = shifted_bears k Shl at _ o (raised_by_none x) (raised_given S n x y o.left.wide) (length-bits_of n _)
value_bears ShlB n k at a b x y o = shifted_bears k Shl at _ o (raised_by_none x) (raised_given B n x y o.left.wide) (length-bits_of n _)
value_bears ShrU n k at a b x y o = shifted_bears k Shr at _ o (lowered_by_none x) (lowered_given n x y o.left.wide) (length-bits_of n _)
value_bears ShrS n k at a b x y o = shifted_bears k Sar at _ o (signed_lowered_by_none x) (signed_lowered_given n x y o.left.wide) (length-bits_of n _)
value_bears ShrB n k at a b x y o = shifted_bears k Shr at _ o (lowered_by_none x) (lowered_given n x y o.left.wide) (length-bits_of n _)
value_bears EqU n m at a b x y o = compared_bears n Eq at _ o (equal_given U n x y o.left.wide o.right.wide) refl
value_bears EqS n m at a b x y o = compared_bears n Eq at _ o (equal_given S n x y o.left.wide o.right.wide) refl
value_bears EqB n m at a b x y o = compared_bears n Eq at _ o (equal_given B n x y o.left.wide o.right.wide) refl
value_bears PrimLtU n m at a b x y o = compared_bears n LtU at _ o refl refl
value_bears PrimLtS n m at a b x y o = compared_bears n LtS at _ o refl refl
value_bears ExtU n m at a b x y o = extended_bears U n m at o
value_bears ExtS n m at a b x y o = extended_bears S n m at o
value_bears ExtB n m at a b x y o = extended_bears B n m at o
value_bears TruncU n m at a b x y o = sliced_bears 0 n at _ o.bears (omega (arith, o.fits)) (lowest_bits n x o.fits) (length-bits_of n _)
value_bears TruncS n m at a b x y o = sliced_bears 0 n at _ o.bears (omega (arith, o.fits)) (lowest_bits n x o.fits) (length-bits_of n _)
value_bears TruncB n m at a b x y o = sliced_bears 0 n at _ o.bears (omega (arith, o.fits)) (lowest_bits n x o.fits) (length-bits_of n _)
value_bears Slice l n at a b x y o = sliced_bears l n at _ o.bears o.fits (λ some. sym (middle_is_cut l n x some o.fits)) (length-bits_of n _)
value_bears PrimJoin n m at a b x y o = joined_bears at o
value_bears PrimRedAnd n m at a b x y o = reduced_bears n RedAnd at _ o refl refl
value_bears PrimRedOr n m at a b x y o = reduced_bears n RedOr at _ o refl refl
value_bears PrimRedXor n m at a b x y o = reduced_bears n RedXor at _ o refl refl
value_bears PackU n m at a b x y o = copied_bears at o
value_bears PackS n m at a b x y o = copied_bears at o
value_bears UnpackU n m at a b x y o = copied_bears at o
value_bears UnpackS n m at a b x y o = copied_bears at o
value_bears _ n m at a b x y o = absurd o

-- where a primitive has a value, the last wire of its cells has the value's bits
pub values_bear : {net : Net} {path : List ℕ} {h : List Event} (p : Prim) (nats : List ℕ) (args : List (List Bool)) (at : ℕ) (a b : List WireId) (bits : List Bool) → value_of p nats args ≡ Some bits → Bears net path h a (get_or args 0 []) → (1 < length args → Bears net path h b (get_or args 1 []))
    → Gives net path h at (word_cells p (get_or nats 0 0) (get_or nats 1 0) at a b) bits
values_bear {net} {path} {h} p nats args at a b bits e left right =
    let taken = taken_from_value p nats args bits e in
    let n = get_or nats 0 0 in
    let m = get_or nats 1 0 in
    subst (Gives net path h at (word_cells p n m at a b)) (sym taken.1)
    (value_bears p n m at a b (get_or args 0 []) (get_or args 1 []) (operands (row_of p) nats args taken.0.0 left right))
