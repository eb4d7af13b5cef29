-- The sums that the code's lists of summands stand for.
use Rattle.std.specs.Prelude.{ℕ, List, map}
use Rattle.chw_types.specs.declared.polynomial.Summand.{Summand}
use Rattle.chw_types.specs.Polynomials.{Monomial, Summands, by_each}
use Rattle.chw_types.specs.Agreement.{Agrees}
use Rattle.chw_types.specs.NormalSums.{TakesLeast}

-- the coefficient and the monomial of a summand
abbrev pub summand_of : Summand → ℕ × Monomial
summand_of s = (s.coefficient, s.factors.items)

-- the summands of a list, in its order
abbrev pub sum_of : List Summand → Summands
sum_of ss = map summand_of ss

-- each summand of one list times each of the other
abbrev pub products_of : List Summand → List Summand → Summands
products_of p q = by_each (sum_of p) (sum_of q)

-- the least summand of two lists, and what is left of each
abbrev pub Takes : List Summand → List Summand → Summand → List Summand → List Summand → Type 0
Takes p q s p' q' = TakesLeast (sum_of p) (sum_of q) (summand_of s) (sum_of p') (sum_of q')

-- the products of two pairs of lists are one polynomial
abbrev pub SameProducts : List Summand → List Summand → List Summand → List Summand → Type 0
SameProducts p q r s = Agrees (products_of p q) (products_of r s)
