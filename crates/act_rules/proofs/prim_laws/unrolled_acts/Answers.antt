use Rattle.act_rules.proofs.Unrolled.{unrolls}
use Rattle.act_rules.proofs.prim_laws.unrolled_acts.Goals as goal

pub returns : goal.returns
returns c = λ q ts es e can is p types o kinds vars t origins g d. unrolls p (c.typed_is_sound.ensures p origins.tidy origins.typed) origins.typed types o origins.closed origins.have_types q ts es e can is g d
