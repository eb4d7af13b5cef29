-- The gates of single bits: what each gives for the bits that it reads, and the rows of its table.
-- A row is a mark for each bit that is read: `0`, `1`, or `-` for both.
use Rattle.std.specs.Prelude.{ℕ, Bool, true, false, not, ◌&&◌, ◌||◌, ◌==◌, if◌then◌else◌}
use Rattle.std.specs.Prelude.{List, [], ◌∷◌, codes, map}
use Rattle.std.specs.List.{list_any}
use Rattle.chw_bits.specs.Bitwise.{differ}

pub data Gate : Type 0 where
  -- of no bits: 0, and 1
  never : Gate
  always : Gate
  -- of one bit: the bit itself, and its opposite
  buffer : Gate
  inverse : Gate
  -- of two bits: both, one or both, just one, and both or none
  both : Gate
  either : Gate
  differing : Gate
  alike : Gate
  -- of three bits: whether an odd number is set, and whether two are
  odd : Gate
  most : Gate
  -- by the first bit the second one or the third
  choice : Gate
  -- the first bit is less than the second, or they are equal and the third is set
  less : Gate
  -- the first bit, or both others
  added : Gate
  -- the first bit, where the second isn't set
  cleared : Gate
  -- just these bits
  address : List Bool → Gate

-- what a function of so many bits gives for a list of bits, and 0 for a list of another length
abbrev pub of_one : (Bool → Bool) → List Bool → Bool
of_one f (a ∷ []) = f a
of_one f _ = false

abbrev pub of_two : (Bool → Bool → Bool) → List Bool → Bool
of_two f (a ∷ b ∷ []) = f a b
of_two f _ = false

abbrev pub of_three : (Bool → Bool → Bool → Bool) → List Bool → Bool
of_three f (a ∷ b ∷ c ∷ []) = f a b c
of_three f _ = false

abbrev pub is_odd : Bool → Bool → Bool → Bool
is_odd a b c = differ (differ a b) c

abbrev pub are_most : Bool → Bool → Bool → Bool
are_most a b c = a && b || (a && c || b && c)

abbrev pub is_less : Bool → Bool → Bool → Bool
is_less a b c = not a && b || not (differ a b) && c

-- no bits
abbrev pub is_none : List Bool → Bool
is_none [] = true
is_none (a ∷ bits) = false

-- the lists have the same bits
abbrev pub are_bits : List Bool → List Bool → Bool
are_bits [] [] = true
are_bits (a ∷ these) (b ∷ those) = not (differ a b) && are_bits these those
are_bits _ _ = false

abbrev pub gate_value : Gate → List Bool → Bool
gate_value never bits = false
gate_value always bits = is_none bits
gate_value buffer bits = of_one (λ a. a) bits
gate_value inverse bits = of_one not bits
gate_value both bits = of_two (λ a b. a && b) bits
gate_value either bits = of_two (λ a b. a || b) bits
gate_value differing bits = of_two differ bits
gate_value alike bits = of_two (λ a b. not (differ a b)) bits
gate_value odd bits = of_three is_odd bits
gate_value most bits = of_three are_most bits
gate_value choice bits = of_three (λ c a b. if c then a else b) bits
gate_value less bits = of_three is_less bits
gate_value added bits = of_three (λ a b c. a || b && c) bits
gate_value cleared bits = of_two (λ a b. a && not b) bits
gate_value (address own) bits = are_bits own bits

-- the mark of a bit
abbrev pub digit_of : Bool → ℕ
digit_of bit = if bit then 49 else 48

abbrev pub rows_of : Gate → List (List ℕ)
rows_of never = []
rows_of always = [] ∷ []
rows_of buffer = codes "1" ∷ []
rows_of inverse = codes "0" ∷ []
rows_of both = codes "11" ∷ []
rows_of either = codes "1-" ∷ codes "-1" ∷ []
rows_of differing = codes "10" ∷ codes "01" ∷ []
rows_of alike = codes "00" ∷ codes "11" ∷ []
rows_of odd = codes "100" ∷ codes "010" ∷ codes "001" ∷ codes "111" ∷ []
rows_of most = codes "11-" ∷ codes "1-1" ∷ codes "-11" ∷ []
rows_of choice = codes "11-" ∷ codes "0-1" ∷ []
rows_of less = codes "01-" ∷ codes "001" ∷ codes "111" ∷ []
rows_of added = codes "1--" ∷ codes "-11" ∷ []
rows_of cleared = codes "10" ∷ []
rows_of (address own) = map digit_of own ∷ []

-- the mark allows the bit
abbrev pub allows : ℕ → Bool → Bool
allows mark bit = (mark == 45) || (mark == digit_of bit)

-- each mark of the row allows its bit
abbrev pub row_matches : List ℕ → List Bool → Bool
row_matches [] [] = true
row_matches (mark ∷ marks) (bit ∷ bits) = allows mark bit && row_matches marks bits
row_matches _ _ = false

-- one of the rows matches the bits
abbrev pub matches : List (List ℕ) → List Bool → Bool
matches rows bits = list_any (λ row. row_matches row bits) rows
