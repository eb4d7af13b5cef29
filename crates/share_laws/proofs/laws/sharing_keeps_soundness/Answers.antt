use Rattle.share_laws.proofs.AsNet.{well_formed}
use Rattle.share_laws.proofs.IsFlat.{is_flat}
use Rattle.share_laws.proofs.Soundness.{shared_sound}
use Rattle.share_laws.proofs.laws.sharing_keeps_soundness.Goals as goal

pub returns : goal.returns
returns c = record {
  sound = λ flat shared sound s. shared_sound flat shared sound s;
  well_formed = λ flat sound hold. well_formed flat sound hold;
  flat = λ flat sound. is_flat flat sound;
}
