-- Words as integers, at each sort of scalars.
use Rattle.std.specs.Prelude.{Bool, List, ℤ, pos}
use Rattle.chw_bits.specs.Bits.{number_of}
use Rattle.chw_bits.specs.Integers.{signed}
use Rattle.chw_types.specs.declared.kind.Scalar.{Scalar}
use Rattle.chw_types.specs.declared.kind.Scalar.TheVariants.{U, S, B}

-- the integer that bits mean at their sort: in two's complement where they are signed, else their number
abbrev pub integer_of : Scalar → List Bool → ℤ
integer_of U bits = pos (number_of bits)
integer_of S bits = signed bits
integer_of B bits = pos (number_of bits)
