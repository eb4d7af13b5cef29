use Rattle.layout_laws.proofs.SameLayout.{same_number}
use Rattle.layout_laws.proofs.laws.same_naturals_mean_one_number.Goals as goal

pub returns : goal.returns
returns c t u h = same_number c.same_values.ensures h
