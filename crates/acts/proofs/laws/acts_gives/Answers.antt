use Rattle.acts.proofs.Better.{acts_gives, chain_gives}
use Rattle.acts.proofs.laws.acts_gives.Goals as goal

pub returns : goal.returns
returns c = record {
  one = λ p t k e' e tidy typed kind acts. acts_gives p (c.typed_is_sound.ensures p tidy typed) typed t k e' e kind acts;
  chain = λ p t k e' e tidy typed kind chain. chain_gives p (c.typed_is_sound.ensures p tidy typed) typed t k kind chain;
}
