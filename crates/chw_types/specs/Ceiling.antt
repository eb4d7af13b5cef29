-- Sums and products that end at the greatest natural: the laws of a commutative semiring.
use Rattle.std.specs.Prelude.{◌≡◌, ℕ, ◌+◌, ◌*◌, ◌≤◌}
use Rattle.chw_types.specs.Polynomials.{greatest, ended}

abbrev pub ended_sum : ℕ → ℕ → ℕ
ended_sum a b = ended (a + b)

abbrev pub ended_times : ℕ → ℕ → ℕ
ended_times a b = ended (a * b)

abbrev pub SumsCommute : Type 0
SumsCommute = (a b : ℕ) → ended_sum a b ≡ ended_sum b a

abbrev pub SumsAssociate : Type 0
SumsAssociate = (a b c : ℕ) → ended_sum (ended_sum a b) c ≡ ended_sum a (ended_sum b c)

abbrev pub ProductsCommute : Type 0
ProductsCommute = (a b : ℕ) → ended_times a b ≡ ended_times b a

abbrev pub ProductsAssociate : Type 0
ProductsAssociate = (a b c : ℕ) → ended_times (ended_times a b) c ≡ ended_times a (ended_times b c)

abbrev pub ProductsOverSums : Type 0
ProductsOverSums = (a b c : ℕ) → ended_times a (ended_sum b c) ≡ ended_sum (ended_times a b) (ended_times a c)

-- zero adds nothing
abbrev pub ZeroIsNeutral : Type 0
ZeroIsNeutral = (a : ℕ) → a ≤ greatest → ended_sum 0 a ≡ a

-- one changes no factor
abbrev pub OneIsNeutral : Type 0
OneIsNeutral = (a : ℕ) → a ≤ greatest → ended_times 1 a ≡ a

-- a product with zero is zero
abbrev pub ZeroAbsorbs : Type 0
ZeroAbsorbs = (a : ℕ) → ended_times 0 a ≡ 0
