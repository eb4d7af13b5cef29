use Rattle.chw_layout.proofs.Encodings.{encoded_value, value_encoded, encoded_once}
use Rattle.chw_layout.proofs.laws.encodings.Goals as goal

pub returns : goal.returns
returns c = record {
  value = λ datas t v bits e. encoded_value e;
  there = λ datas t v w d k. value_encoded k d;
  one = λ datas t v bits more e f. encoded_once e f;
}
