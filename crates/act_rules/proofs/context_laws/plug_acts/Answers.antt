use Rattle.act_rules.proofs.Plugged.{plugged_acts}
use Rattle.act_rules.proofs.context_laws.plug_acts.Goals as goal

pub returns : goal.returns
returns c = λ p types o kinds ks vars vs e x' x t path tidy typed closed have g d r f. plugged_acts p (c.typed_is_sound.ensures p tidy typed) typed types o closed have r x' f g t d
