use Rattle.act_rules.proofs.PrimCase.{prim_case}
use Rattle.act_rules.proofs.case_laws.prim_case_acts.Goals as goal

pub returns : goal.returns
returns c = λ q args i e alts is p types o kinds vars t origins g d. prim_case p (c.typed_is_sound.ensures p origins.tidy origins.typed) origins.typed types o origins.closed origins.have_types q args i e alts is g d
