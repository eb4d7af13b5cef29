use Rattle.std.proofs.Common.{◌+◌, ◌*◌}
use Rattle.chw_types.specs.Arguments.{arguments}
use Rattle.chw_types.specs.TypeTree.{data_of}
use Rattle.chw_types.specs.TypeView.{trees_of}
use Rattle.chw_types.proofs.Weights.{whole}
use Rattle.data_bits.proofs.Unfolded.{fields_whole}
use Rattle.data_bits.proofs.Decoded.{RowRead, FieldsRead}
use Rattle.data_bits.proofs.decoding.+decoding.Given as goal

abbrev pub decreases-decode_value : goal.decreases-decode_value
decreases-decode_value l = 3 * whole l.datas.now l.t.now + 2

abbrev pub decreases-decode_elements : goal.decreases-decode_elements
decreases-decode_elements l = 3 * whole l.datas.now l.of.now + 3

abbrev pub decreases-decode_data : goal.decreases-decode_data
decreases-decode_data l = 3 * whole l.datas.now (data_of l.at (trees_of l.args.now)) + 1

abbrev pub decreases-decode_fields : goal.decreases-decode_fields
decreases-decode_fields l = 3 * fields_whole l.datas.now l.fields.now (arguments (trees_of l.args.now))

abbrev pub invariant-decode_elements-loop-place : goal.invariant-decode_elements-loop-place
invariant-decode_elements-loop-place l = RowRead l.datas l.of l.count l.width l.bits l._place l.values.items l.rest

abbrev pub invariant-decode_fields-loop-field : goal.invariant-decode_fields-loop-field
invariant-decode_fields-loop-field l = FieldsRead l.datas l.fields (arguments (trees_of l.args)) l.bits l.field-index l.values.items l.rest
