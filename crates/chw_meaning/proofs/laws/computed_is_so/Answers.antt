use Rattle.chw_meaning.proofs.Sound.{eval_sound, force_sound}
use Rattle.chw_meaning.proofs.ShownSound.{shown_is_so}
use Rattle.chw_meaning.proofs.laws.computed_is_so.Goals as goal

pub returns : goal.returns
returns c = record {
  terms = λ d p e γ δ h r i. (eval_sound d p e γ δ h).of r i;
  thunks = λ d p th h r i. (force_sound d p th h).of r i;
  shown = shown_is_so;
}
