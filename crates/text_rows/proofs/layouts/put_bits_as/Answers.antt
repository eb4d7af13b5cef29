use Rattle.chw_layout.proofs.Encodings.{encoded_value}
use Rattle.data_bits.proofs.Decoded.{value_some}
use Rattle.text_rows.proofs.layouts.put_bits_as.Goals as goal

pub put_encoded-outcome-requires-clause-value : goal.put_encoded-outcome-requires-clause-value
put_encoded-outcome-requires-clause-value c = encoded_value (value_some c.args.datas.now c.args.t.now _ c.in_ok-value.field-0 c.in-Some.value c.in-Some.is c.in_ok-value.ensures.some)
