use Rattle.act_rules.proofs.Beta.{type_beta}
use Rattle.act_rules.proofs.rule_laws.type_beta_acts.Goals as goal

pub returns : goal.returns
returns c = λ k e a p types o kinds vars u origins g d. type_beta p (c.typed_is_sound.ensures p origins.tidy origins.typed) origins.typed types o origins.closed origins.have_types g d
