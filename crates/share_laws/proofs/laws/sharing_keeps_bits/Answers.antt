use Rattle.share_laws.proofs.SameBits.{same_bits, same_outputs}
use Rattle.share_laws.proofs.laws.sharing_keeps_bits.Goals as goal

pub returns : goal.returns
returns c = record {
  wires = λ flat shared s h w n bits sound no_loop fits b. same_bits flat shared sound no_loop s h w n bits fits b;
  outputs = λ flat shared h k o p bits sound no_loop fits s e f. same_outputs flat shared sound no_loop s h k o p bits fits e f;
}
