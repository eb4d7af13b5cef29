use Rattle.chw_layout.proofs.Encodings.{encoded_length, encoded_value}
use Rattle.chw_meaning.proofs.ZerosEncoded.{zero_bits}
use Rattle.net_grounds.proofs.laws.encodings_of_values.Goals as goal

pub returns : goal.returns
returns c = record {
  tag_suffices = c.tags.ensures.suffices;
  encoded_length = λ e has. encoded_length c.length_of_made_bits.ensures e has;
  encoded_value = encoded_value;
  zero_bits = zero_bits;
}
