use Rattle.act_rules.proofs.CaseCase.{case_case}
use Rattle.act_rules.proofs.case_laws.case_case_acts.Goals as goal

pub returns : goal.returns
returns c = λ e inner alts p types o kinds vars t origins g d. case_case p (c.typed_is_sound.ensures p origins.tidy origins.typed) origins.typed types o origins.closed origins.have_types g d
