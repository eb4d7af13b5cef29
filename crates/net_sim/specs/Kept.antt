-- How a word is kept: its number where it has at most 128 bits, else the list of its bits.
use Rattle.std.specs.Prelude.{ℕ, ◌<◌, ◌≤◌, ◌^◌, Bool, List, length}
use Rattle.chw_bits.specs.Bits.{bits_of}
use Rattle.net_sim.specs.declared.word.Kept.{Kept}
use Rattle.net_sim.specs.declared.word.Kept.TheVariants.{Small, Narrow, Wide}

-- the bits of a word
abbrev pub kept_bits : Kept → List Bool
kept_bits (Small width number) = bits_of width number
kept_bits (Narrow width number) = bits_of width number.value
kept_bits (Wide list) = list.value.items

-- the width is at most this one, and the number is below 2 to the width
pub record IsNumber (most width number : ℕ) : Type 0 where
  pub narrow : width ≤ most
  pub below : number < 2 ^ width

-- the width is above 64 and at most 128, and the number is below 2 to the width
pub record IsLarge (width number : ℕ) : Type 0 where
  pub large : 64 < width
  pub is : IsNumber 128 width number

-- the list is wide, and has fewer than 2 to the 32 bits
pub record IsList (list : List Bool) : Type 0 where
  pub wide : 128 < length list
  pub small : length list < 2 ^ 32

-- the word is kept as its width says
abbrev pub IsKept : Kept → Type 0
IsKept (Small width number) = IsNumber 64 width number
IsKept (Narrow width number) = IsLarge width number.value
IsKept (Wide list) = IsList list.value.items
