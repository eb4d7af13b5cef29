-- Sums in normal form: each monomial once, in order, with a coefficient that is not zero.
use Rattle.std.specs.Prelude.{◌≡◌, ℕ, ◌+◌, ◌*◌, ◌<◌, ◌≤◌, [], ◌∷◌, length, map}
use Rattle.std.specs.declared.cmp.Ordering.{Ordering}
use Rattle.std.specs.declared.cmp.Ordering.TheVariants.{Less}
use Rattle.std.specs.Ordering.{nat_cmp, ordering_then}
use Rattle.std.specs.Cmp.Lexicographic.{slice_cmp}
use Rattle.chw_types.specs.Polynomials.{greatest, ended, Monomial, times, Summands}

-- the order of monomials: the shorter one first, and those of one length as in a dictionary
abbrev pub order : Monomial → Monomial → Ordering
order m n = ordering_then (nat_cmp (length m) (length n)) (slice_cmp nat_cmp m n)

-- no factor is less than this number
abbrev pub AllFrom : ℕ → Monomial → Type 0
AllFrom x [] = Unit {0}
AllFrom x (y ∷ m) = (x ≤ y) × AllFrom x m

-- the least factor first
abbrev pub IsAscending : Monomial → Type 0
IsAscending [] = Unit {0}
IsAscending (x ∷ m) = AllFrom x m × IsAscending m

-- each monomial of the sum comes after this one
abbrev pub AllAfter : Monomial → Summands → Type 0
AllAfter m [] = Unit {0}
AllAfter m (s ∷ p) = (order m s.1 ≡ Less) × AllAfter m p

-- a coefficient in 32 bits that is not zero, and factors in order
abbrev pub IsProper : ℕ × Monomial → Type 0
IsProper s = (0 < s.0) × (s.0 ≤ greatest) × IsAscending s.1

abbrev pub IsNormal : Summands → Type 0
IsNormal [] = Unit {0}
IsNormal (s ∷ p) = IsProper s × AllAfter s.1 p × IsNormal p

-- the product of two summands, where the coefficient ends at the greatest natural
abbrev pub ended_times : ℕ × Monomial → ℕ × Monomial → ℕ × Monomial
ended_times s t = (ended (s.0 * t.0), times s.1 t.1)

-- each summand times this one
abbrev pub scaled : ℕ × Monomial → Summands → Summands
scaled s q = map (λ t. ended_times s t) q

-- the least summand of two sums, and what is left of each. What is first in both is summed.
pub data TakesLeast : Summands → Summands → ℕ × Monomial → Summands → Summands → Type 0 where
  of_first : {s t : ℕ × Monomial} {p q : Summands} → order s.1 t.1 ≡ Less →
      TakesLeast (s ∷ p) (t ∷ q) s p (t ∷ q)
  of_second : {s t : ℕ × Monomial} {p q : Summands} → order t.1 s.1 ≡ Less →
      TakesLeast (s ∷ p) (t ∷ q) t (s ∷ p) q
  of_both : {c d : ℕ} {m : Monomial} {p q : Summands} →
      TakesLeast ((c, m) ∷ p) ((d, m) ∷ q) (ended (c + d), m) p q
