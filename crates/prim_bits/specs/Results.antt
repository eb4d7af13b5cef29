-- What is done with words: arithmetic at a width, and shifts.
use Rattle.std.specs.Prelude.{ℕ, ◌^◌, Bool, List, pos, ◌+ℤ◌, ◌-ℤ◌, ◌*ℤ◌}
use Rattle.std.specs.Int.{int_div_euclid}
use Rattle.chw_bits.specs.Bits.{number_of}
use Rattle.chw_types.specs.declared.kind.Scalar.{Scalar}
use Rattle.chw_bits.specs.Integers.{word_of}
use Rattle.prim_bits.specs.Words.{integer_of}

-- the sum, difference and product of two words as integers, at a width
abbrev pub sum_of : Scalar → ℕ → (a b : List Bool) → List Bool
sum_of x width a b = word_of width (integer_of x a +ℤ integer_of x b)

abbrev pub difference_of : Scalar → ℕ → (a b : List Bool) → List Bool
difference_of x width a b = word_of width (integer_of x a -ℤ integer_of x b)

abbrev pub product_of : Scalar → ℕ → (a b : List Bool) → List Bool
product_of x width a b = word_of width (integer_of x a *ℤ integer_of x b)

-- a word as an integer times 2 to a number of places, and the greatest integer that is at most its quotient
abbrev pub raised_of : Scalar → ℕ → (a places : List Bool) → List Bool
raised_of x width a places = word_of width (integer_of x a *ℤ pos (2 ^ number_of places))

abbrev pub lowered_of : Scalar → ℕ → (a places : List Bool) → List Bool
lowered_of x width a places = word_of width (int_div_euclid (integer_of x a) (pos (2 ^ number_of places)))
