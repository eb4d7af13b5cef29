use Rattle.acts.proofs.Puts.{put_terms_act}
use Rattle.acts.proofs.laws.put_terms_act.Goals as goal

pub returns : goal.returns
returns c = λ p types o kinds vars e t σ ρ tidy typed closed has g d n δ γ' γ known put. put_terms_act p (c.typed_is_sound.ensures p tidy typed) typed types o closed has σ ρ g d n δ γ' γ known put
