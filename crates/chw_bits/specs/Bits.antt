-- Bits as numbers: a list of booleans, the most significant first.
use Rattle.std.specs.Prelude.{ℕ, zero, suc, ◌+◌, ◌-◌, ◌/◌, ◌%◌, ◌^◌, Bool, List, [], ◌∷◌, length, take, drop, if◌then◌else◌, ◌==◌}

-- the number that bits mean: each set bit weighs 2 to the count of bits after it
abbrev pub number_of : List Bool → ℕ
number_of [] = 0
number_of (bit ∷ bits) = (if bit then 2 ^ length bits else 0) + number_of bits

-- whether the bit of this place is set in a number, the least significant place 0
abbrev pub bit_of : ℕ → ℕ → Bool
bit_of place n = n / 2 ^ place % 2 == 1

-- the lowest bits of a number, as many as the width, the most significant first
abbrev pub bits_of : ℕ → ℕ → List Bool
bits_of zero n = []
bits_of (suc width) n = bit_of width n ∷ bits_of width n

-- the bits from one place down to another, the least significant place 0
abbrev pub cut_of : ℕ → ℕ → List Bool → List Bool
cut_of high low bits = take (high + 1 - low) (drop (length bits - 1 - high) bits)
