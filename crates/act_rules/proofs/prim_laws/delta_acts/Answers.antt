use Rattle.act_rules.proofs.Computed.{computed}
use Rattle.act_rules.proofs.prim_laws.delta_acts.Goals as goal

pub returns : goal.returns
returns c = λ q ts words b v p types o kinds vars t origins g d. computed p (c.typed_is_sound.ensures p origins.tidy origins.typed) origins.typed types o origins.closed origins.have_types q ts words b v g d
