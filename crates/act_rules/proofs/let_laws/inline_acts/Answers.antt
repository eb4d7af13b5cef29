use Rattle.act_rules.proofs.Inline.{inlined}
use Rattle.act_rules.proofs.let_laws.inline_acts.Goals as goal

pub returns : goal.returns
returns c = λ front t x back e absent p types o kinds vars v origins scope d. inlined p (c.typed_is_sound.ensures p origins.tidy origins.typed) origins.typed types o origins.closed origins.have_types front t x back e absent scope d
