-- Sums with one polynomial.
use Rattle.std.specs.Prelude.{◌≡◌}
use Rattle.chw_types.specs.Polynomials.{Monomial, Summands, coefficient, ended}

-- each monomial has one coefficient in both, as far as coefficients go
abbrev pub Agrees : Summands → Summands → Type 0
Agrees p q = (m : Monomial) → ended (coefficient p m) ≡ ended (coefficient q m)
