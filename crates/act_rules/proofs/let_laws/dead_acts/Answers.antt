use Rattle.act_rules.proofs.Dead.{without_dead}
use Rattle.act_rules.proofs.let_laws.dead_acts.Goals as goal

pub returns : goal.returns
returns c = λ g e marks reached p types o kinds vars t origins scope d. without_dead p (c.typed_is_sound.ensures p origins.tidy origins.typed) origins.typed types o origins.closed origins.have_types g e marks reached scope d
