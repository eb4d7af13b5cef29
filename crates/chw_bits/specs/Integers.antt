-- Bits as integers: in two's complement, and at a width.
use Rattle.std.specs.Prelude.{ℕ, ◌^◌, Bool, List, [], ◌∷◌, length, if◌then◌else◌}
use Rattle.std.specs.Prelude.{ℤ, pos, ◌-ℤ◌, unsigned_abs}
use Rattle.std.specs.Int.{int_rem_euclid}
use Rattle.chw_bits.specs.Bits.{number_of, bits_of}

-- the integer that bits mean in two's complement:
-- the first bit weighs minus 2 to the count of bits after it
abbrev pub signed : List Bool → ℤ
signed [] = pos 0
signed (sign ∷ bits) = pos (number_of bits) -ℤ pos (if sign then 2 ^ length bits else 0)

-- what is left of an integer modulo 2 to the width
abbrev pub residue_of : ℕ → ℤ → ℕ
residue_of width z = unsigned_abs (int_rem_euclid z (pos (2 ^ width)))

-- the lowest bits of an integer, as many as the width:
-- those of what is left of it modulo 2 to the width
abbrev pub word_of : ℕ → ℤ → List Bool
word_of width z = bits_of width (residue_of width z)
