use Rattle.acts.proofs.Eta.{eta_acts}
use Rattle.acts.proofs.laws.eta_acts.Goals as goal

pub returns : goal.returns
returns c = λ p types o' o kinds vars e args r tidy typed closed acts g d n δ γ' γ known names. eta_acts p (c.typed_is_sound.ensures p tidy typed) typed types o' o args r closed g d acts n δ γ' γ known names
