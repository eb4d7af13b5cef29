use Rattle.acts.proofs.Globals.{put_type_acts}
use Rattle.acts.proofs.laws.put_type_acts.Goals as goal

pub returns : goal.returns
returns c = λ p types o j kinds vars e t a ρ' ρ tidy typed closed has g d ka n δ γ' γ known names. put_type_acts p (c.typed_is_sound.ensures p tidy typed) typed types o ρ' ρ closed g d ka has n δ γ' γ known names
