use Rattle.act_rules.proofs.Scrutinees.{case_let}
use Rattle.act_rules.proofs.rule_laws.case_let_acts.Goals as goal

pub returns : goal.returns
returns c = λ g e alts p types o kinds vars u origins vs d. case_let p (c.typed_is_sound.ensures p origins.tidy origins.typed) origins.typed types o origins.closed origins.have_types vs d
