use Rattle.chw_types.specs.Polynomials.{greatest, multiplied}
use Rattle.chw_types.proofs.Sums.{agree_append, agree_by_each}
use Rattle.type_laws.proofs.laws.polynomials_step_by_step.Goals as goal

pub returns : goal.returns
unfolding multiplied
returns c = record {
  sums = λ a b p q h g. agree_append greatest p (multiplied a) q (multiplied b) h g;
  products = λ a b p q h g. agree_by_each greatest p (multiplied a) q (multiplied b) h g;
}
