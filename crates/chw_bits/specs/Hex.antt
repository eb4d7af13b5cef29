-- Bits as hexadecimal text.
use Rattle.std.specs.Prelude.{ℕ, zero, suc, ◌+◌, ◌/◌, ◌%◌, ◌^◌, Bool, ◌≡◌, ◌<◌, List, [], ◌∷◌, length, if◌then◌else◌, nat_lt}
use Rattle.std.specs.Str.Parse.{digits_value, AllDigits}
use Rattle.chw_bits.specs.Bits.{number_of}
use Rattle.chw_bits.specs.declared.read_hex.HexFault.{HexFault}
use Rattle.chw_bits.specs.declared.read_hex.HexFault.TheVariants.{NotHex, Width}

-- how many hexadecimal digits a width takes: a quarter, rounded up
abbrev pub digits_at : ℕ → ℕ
digits_at width = (width + 3) / 4

-- the lower-case hexadecimal digit of a number below 16
abbrev pub hex_digit : ℕ → ℕ
hex_digit n = if nat_lt n 10 then 48 + n else 87 + n

-- the lowest hexadecimal digits of a number, as many as the count, the most significant first
abbrev pub hex_of : ℕ → ℕ → List ℕ
hex_of zero n = []
hex_of (suc count) n = hex_digit (n / 16 ^ count % 16) ∷ hex_of count n

-- the hexadecimal digits of bits: those of their number, as many as their length takes
abbrev pub hex_digits : List Bool → List ℕ
hex_digits bits = hex_of (digits_at (length bits)) (number_of bits)

-- digits of this width: as many as it takes, with no bit above it
abbrev pub HasWidth : ℕ → List ℕ → Type 0
HasWidth width text = (length text ≡ digits_at width) × (digits_value 16 text < 2 ^ width)

-- why a text doesn't mean bits of this width
abbrev pub IsFaultOf : ℕ → List ℕ → HexFault → Type 0
IsFaultOf width text NotHex = ¬ AllDigits 16 text
IsFaultOf width text Width = AllDigits 16 text × ¬ HasWidth width text
