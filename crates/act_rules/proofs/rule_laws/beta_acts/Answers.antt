use Rattle.act_rules.proofs.Beta.{beta}
use Rattle.act_rules.proofs.rule_laws.beta_acts.Goals as goal

pub returns : goal.returns
returns c = λ t e a p types o kinds vars u origins g d. beta p (c.typed_is_sound.ensures p origins.tidy origins.typed) origins.typed types o origins.closed origins.have_types g d
