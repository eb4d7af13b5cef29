use Rattle.std.proofs.Common.{take}
use Rattle.chw_types.specs.Arguments.{arguments}
use Rattle.chw_types.specs.TypeView.{trees_of}
use Rattle.chw_layout.specs.DatumView.{datums_of}
use Rattle.chw_layout.specs.DatumSize.{datum_size, data_size}
use Rattle.chw_layout.specs.Encodes.{EncodesElements, EncodesFields}
use Rattle.data_bits.specs.Encoding.{Adds}
use Rattle.data_bits.proofs.encoding.+encoding.Given as goal

abbrev pub decreases-encode_into : goal.decreases-encode_into
decreases-encode_into l = datum_size l.v.now

abbrev pub decreases-encode_elements : goal.decreases-encode_elements
decreases-encode_elements l = data_size (datums_of l.values.now)

abbrev pub decreases-encode_fields : goal.decreases-encode_fields
decreases-encode_fields l = data_size (datums_of l.values.now)

abbrev pub invariant-encode_elements-loop-value : goal.invariant-encode_elements-loop-value
invariant-encode_elements-loop-value l = Adds (EncodesElements l.datas l.of (datums_of (take l.value-index l.values))) l.initial.into.items l.into.items

abbrev pub invariant-encode_fields-loop-i : goal.invariant-encode_fields-loop-i
invariant-encode_fields-loop-i l = Adds (EncodesFields l.datas (take l.i l.fields) (arguments (trees_of l.args)) (datums_of (take l.i l.values))) l.initial.into.items l.into.items
