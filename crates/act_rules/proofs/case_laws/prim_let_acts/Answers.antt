use Rattle.act_rules.proofs.PrimLet.{prim_let}
use Rattle.act_rules.proofs.case_laws.prim_let_acts.Goals as goal

pub returns : goal.returns
returns c = λ q args i b e is p types o kinds vars t origins g d. prim_let p (c.typed_is_sound.ensures p origins.tidy origins.typed) origins.typed types o origins.closed origins.have_types q args i b e is g d
