use Rattle.act_rules.proofs.Projected.{projected}
use Rattle.act_rules.proofs.case_laws.projections_act.Goals as goal

pub returns : goal.returns
returns c = λ p t fields x n k e more port pattern types o kinds vars v origins g d. projected p (c.typed_is_sound.ensures p origins.tidy origins.typed) origins.typed types o origins.closed origins.have_types t fields x n k e more port pattern g d
