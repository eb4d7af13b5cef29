use Rattle.act_rules.proofs.Lets.{app_let, app_let_type}
use Rattle.act_rules.proofs.rule_laws.app_let_acts.Goals as goal

pub returns : goal.returns
returns c = record {
  terms = λ g e a p types o kinds vars u origins vs d. app_let p (c.typed_is_sound.ensures p origins.tidy origins.typed) origins.typed types o origins.closed origins.have_types vs d;
  types = λ g e a p types o kinds vars u origins vs d. app_let_type p (c.typed_is_sound.ensures p origins.tidy origins.typed) origins.typed types o origins.closed origins.have_types vs d;
}
