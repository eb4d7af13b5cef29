-- The values of the primitives on words, a line for each primitive.
use Rattle.std.specs.Prelude.{ℕ, ◌+◌, ◌/◌, ◌%◌, ◌^◌, ◌==◌, Bool, false, not, ◌&&◌, ◌||◌, List, [], ◌++◌, length, map, count_by, int_lt, Option, Some, None, slice_index, slice_index_or, if◌then◌else◌, nat_eq, nat_lt}
use Rattle.std.specs.Cmp.Lexicographic.{pointwise}
use Rattle.std.specs.List.{list_all, list_any}
use Rattle.std.specs.Ordering.{int_eq}
use Rattle.chw_bits.specs.Bits.{number_of, bits_of}
use Rattle.chw_types.specs.declared.kind.Scalar.TheVariants.{U, S, B}
use Rattle.chw_prims.specs.Schemas.{row_of}
use Rattle.chw_prims.specs.declared.prim.Primitive.{Primitive}
use Rattle.chw_prims.specs.declared.prim.Primitive.TheVariants.{AddU, AddS, SubU, SubS, MulU, MulS, XaddU, XaddS, XmulU, XmulS, AndU, AndS, AndB, OrU, OrS, OrB, XorU, XorS, XorB, NotU, NotS, NotB, ShlU, ShlS, ShlB, ShrU, ShrS, ShrB, EqU, EqS, EqB, LtU, LtS, ExtU, ExtS, ExtB, TruncU, TruncS, TruncB, Slice, Join, RedAnd, RedOr, RedXor, PackU, PackS, UnpackU, UnpackS}
use Rattle.chw_bits.specs.Bitwise.{bit_by_bit, differ, one_bit}
use Rattle.prim_bits.specs.Results.{sum_of, difference_of, product_of, raised_of, lowered_of}
use Rattle.prim_bits.specs.Widths.{argument_widths, width_of}
use Rattle.chw_bits.specs.Integers.{word_of}
use Rattle.prim_bits.specs.Words.{integer_of}

-- the result of a primitive at its first two natural arguments and its words; of one that isn't on words, none
abbrev pub result_of : Primitive → (n m : ℕ) → (a b : List Bool) → List Bool
result_of AddU n m a b = sum_of U n a b
result_of AddS n m a b = sum_of S n a b
result_of SubU n m a b = difference_of U n a b
result_of SubS n m a b = difference_of S n a b
result_of MulU n m a b = product_of U n a b
result_of MulS n m a b = product_of S n a b
result_of XaddU n m a b = sum_of U (n + 1) a b
result_of XaddS n m a b = sum_of S (n + 1) a b
result_of XmulU n m a b = product_of U (n + m) a b
result_of XmulS n m a b = product_of S (n + m) a b
result_of AndU n m a b = bit_by_bit (λ x y. x && y) a b
result_of AndS n m a b = bit_by_bit (λ x y. x && y) a b
result_of AndB n m a b = bit_by_bit (λ x y. x && y) a b
result_of OrU n m a b = bit_by_bit (λ x y. x || y) a b
result_of OrS n m a b = bit_by_bit (λ x y. x || y) a b
result_of OrB n m a b = bit_by_bit (λ x y. x || y) a b
result_of XorU n m a b = bit_by_bit differ a b
result_of XorS n m a b = bit_by_bit differ a b
result_of XorB n m a b = bit_by_bit differ a b
result_of NotU n m a b = map not a
result_of NotS n m a b = map not a
result_of NotB n m a b = map not a
result_of ShlU n k a b = raised_of U n a b
result_of ShlS n k a b = raised_of S n a b
result_of ShlB n k a b = raised_of B n a b
result_of ShrU n k a b = lowered_of U n a b
result_of ShrS n k a b = lowered_of S n a b
result_of ShrB n k a b = lowered_of B n a b
result_of EqU n m a b = one_bit (int_eq (integer_of U a) (integer_of U b))
result_of EqS n m a b = one_bit (int_eq (integer_of S a) (integer_of S b))
result_of EqB n m a b = one_bit (int_eq (integer_of B a) (integer_of B b))
result_of LtU n m a b = one_bit (int_lt (integer_of U a) (integer_of U b))
result_of LtS n m a b = one_bit (int_lt (integer_of S a) (integer_of S b))
result_of ExtU n m a b = word_of (n + m) (integer_of U a)
result_of ExtS n m a b = word_of (n + m) (integer_of S a)
result_of ExtB n m a b = word_of (n + m) (integer_of B a)
result_of TruncU n m a b = bits_of n (number_of a)
result_of TruncS n m a b = bits_of n (number_of a)
result_of TruncB n m a b = bits_of n (number_of a)
result_of Slice l n a b = bits_of n (number_of a / 2 ^ l)
result_of Join n m a b = a ++ b
result_of RedAnd n m a b = one_bit (list_all (λ bit. bit) a)
result_of RedOr n m a b = one_bit (list_any (λ bit. bit) a)
result_of RedXor n m a b = one_bit (count_by (λ bit. bit) a % 2 == 1)
result_of PackU n m a b = a
result_of PackS n m a b = a
result_of UnpackU n m a b = a
result_of UnpackS n m a b = a
result_of _ n m a b = []

-- whether a primitive takes words of these widths, as a test
abbrev pub has_widths : Option (List ℕ) → List ℕ → Bool
has_widths None widths = false
has_widths (Some wanted) widths = pointwise nat_eq wanted widths

abbrev pub takes : Primitive → (nats widths : List ℕ) → Bool
takes p nats widths = has_widths (argument_widths (row_of p) nats) widths && nat_lt (width_of p nats) (2 ^ 32)

-- the value of a primitive at its natural arguments and its words: none where it isn't one on words, or they aren't those that it takes
abbrev pub value_of : Primitive → List ℕ → List (List Bool) → Option (List Bool)
value_of p nats args =
    if takes p nats (map length args)
    then Some (result_of p (slice_index nats 0) (slice_index nats 1) (slice_index_or args 0 []) (slice_index_or args 1 []))
    else None
