use Rattle.act_rules.proofs.Rules.{joined}
use Rattle.act_rules.proofs.signal_laws.joins_act.Goals as goal

pub returns : goal.returns
returns c = λ os at e e' joins p types o kinds vars t origins g typed. joined p (c.typed_is_sound.ensures p origins.tidy origins.typed) origins.typed types o origins.closed origins.have_types joins g t typed
