-- The sort and the bits of a literal.
use Rattle.std.specs.Prelude.{ℕ, ◌+◌, ◌-◌, ◌*◌, ◌%◌, ◌^◌, Bool, true, false, nat_lt, nat_le, List, replicate, Option, Some, None, if◌then◌else◌}
use Rattle.chw_base.specs.declared.limits.TheConstants.{SCALAR_BITS}
use Rattle.chw_bits.specs.Bits.{bits_of}
use Rattle.chw_grammar.specs.declared.literal.Letter.{Letter}
use Rattle.chw_grammar.specs.declared.literal.Letter.TheVariants as letter
use Rattle.chw_grammar.specs.declared.literal.Literal.{Literal}
use Rattle.chw_grammar.specs.Literals.{within}
use Rattle.chw_types.specs.declared.kind.Scalar.{Scalar}
use Rattle.chw_types.specs.declared.kind.Scalar.TheVariants.{U, S, B}

-- the sort of scalars that has literals of this letter
abbrev pub sort_of : Letter → Scalar
sort_of letter.U = U
sort_of letter.S = S
sort_of letter.B = B

-- the bits of a literal that is none: one more than a scalar may have
unfoldable pub unfit : List Bool
unfit = replicate (SCALAR_BITS + 1) false

-- the number that the bits of a value mean, where the value is in the range of its letter and width. A value of `s` is in two's
-- complement: twice the value is below two to the width, and from the negative of this on
abbrev pub number_in : Letter → (negative : Bool) → (value width : ℕ) → Option ℕ
number_in letter.S true value width = if nat_le (2 * value) (2 ^ width) then Some ((2 ^ width - value) % 2 ^ width) else None
number_in letter.S false value width = if nat_lt (2 * value) (2 ^ width) then Some value else None
number_in _ negative value width = within width value

abbrev pub bits_or_unfit : ℕ → Option ℕ → List Bool
bits_or_unfit width (Some number) = bits_of width number
bits_or_unfit width None = unfit

-- the bits of a value in a width, where both are known
abbrev pub bits_of_value : Letter → Bool → Option ℕ → Option ℕ → List Bool
bits_of_value letter negative (Some value) (Some width) = if nat_le width SCALAR_BITS then bits_or_unfit width (number_in letter negative value width) else unfit
bits_of_value letter negative _ _ = unfit

-- the bits of a literal
abbrev pub bits_in : Literal → List Bool
bits_in l = bits_of_value l.letter l.negative l.value l.width
