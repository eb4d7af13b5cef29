use Rattle.act_rules.proofs.AppCase.{app_case, app_case_type}
use Rattle.act_rules.proofs.case_laws.app_case_acts.Goals as goal

pub returns : goal.returns
returns c = record {
  terms = λ u e a alts p types o kinds vars t origins g d. app_case p (c.typed_is_sound.ensures p origins.tidy origins.typed) origins.typed types o origins.closed origins.have_types u g d;
  types = λ e alts a p types o kinds vars t origins g d. app_case_type p (c.typed_is_sound.ensures p origins.tidy origins.typed) origins.typed types o origins.closed origins.have_types g d;
}
