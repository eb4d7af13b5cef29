-- Numbers that fit a width, with their bits.
use Rattle.std.specs.Prelude.{◌≡◌, ℕ, ◌^◌, ◌<◌, ◌≤◌, Bool, List, Option, Some, None}
use Rattle.chw_bits.specs.Bits.{bits_of}

-- the bits of a number at a width that it fits, or none where it doesn't
abbrev pub Fits : (width number : ℕ) → Option (List Bool) → Type 0
Fits width number (Some bits) = (number < 2 ^ width) × (bits ≡ bits_of width number)
Fits width number None = 2 ^ width ≤ number
