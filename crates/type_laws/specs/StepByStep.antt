-- The polynomial of a sum or product, from any sums that have the polynomials of its parts: coefficients may end at each step.
use Rattle.std.specs.Prelude.{◌++◌}
use Rattle.chw_types.specs.TypeTree.{TypeTree, nat_sum, nat_product}
use Rattle.chw_types.specs.Agreement.{Agrees}
use Rattle.chw_types.specs.Polynomials.{Summands, by_each, multiplied}

abbrev pub SumsStepByStep : Type 0
SumsStepByStep =
    (a b : TypeTree) (p q : Summands) → Agrees p (multiplied a) → Agrees q (multiplied b) → Agrees (p ++ q) (multiplied (nat_sum a b))

abbrev pub ProductsStepByStep : Type 0
ProductsStepByStep =
    (a b : TypeTree) (p q : Summands) → Agrees p (multiplied a) → Agrees q (multiplied b) → Agrees (by_each p q) (multiplied (nat_product a b))
