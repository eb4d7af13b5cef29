use Rattle.acts.proofs.Globals.{renamed_acts}
use Rattle.acts.proofs.laws.typed_terms_act.Goals as goal

pub returns : goal.returns
returns c = λ p types o' o kinds vars e t ρ' ρ tidy typed closed acts g d n δ γ' γ known names. renamed_acts p (c.typed_is_sound.ensures p tidy typed) typed types o' o ρ' ρ closed g d acts n δ γ' γ known names
