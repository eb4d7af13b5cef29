use Rattle.act_rules.proofs.Opening.{opening_gives}
use Rattle.act_rules.proofs.context_laws.opening_gives.Goals as goal

pub returns : goal.returns
returns c = λ p d it args r tidy typed at is. opening_gives p (c.typed_is_sound.ensures p tidy typed) typed d it args r at is
