-- Further nodes of a cell by their numbers.
use Rattle.std.specs.Prelude.{ℕ, ◌+◌, ◌*◌, List}
use Rattle.bit_laws.specs.BitNames.{further}
use Rattle.bit_blast.specs.Names.{by_places}
use Rattle.bit_blast.specs.declared.numbers.Numbers.{Numbers}
use Rattle.bit_blast.specs.declared.numbers.Numbers.TheVariants.{Each, EachThird}

-- the number of this place
abbrev pub nth : Numbers → ℕ → ℕ
nth (Each from) j = from + j
nth (EachThird from) j = from + 3 * j

-- the further nodes of wire k with the numbers of so many places, the highest place first
abbrev pub spaced : (k : ℕ) → Numbers → (count : ℕ) → List (List ℕ)
spaced k numbers count = by_places (λ j. further k (nth numbers j)) count
