use Rattle.bit_laws.proofs.Kept.{outputs_kept, wires_kept}
use Rattle.bit_laws.proofs.laws.single_bits_keep_bits.Goals as goal

pub returns : goal.returns
returns c = record {
  wires = λ flat h w bits sound no_loop fits v. wires_kept flat sound no_loop h w bits fits v;
  outputs = λ flat h k port o bits sound no_loop fits e f v. outputs_kept flat sound no_loop h k port o bits fits e f v;
}
