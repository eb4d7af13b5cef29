-- What falls from call to call, and what the loops keep.
use Rattle.std.proofs.Common.{◌+◌, ◌*◌, take}
use Rattle.chw_types.specs.Arguments.{arguments}
use Rattle.chw_types.specs.TypeMoves.{sub}
use Rattle.chw_types.specs.TypeTree.{data_of}
use Rattle.chw_types.specs.TypeView.{trees_of}
use Rattle.chw_types.proofs.Weights.{whole}
use Rattle.data_bits.proofs.Unfolded.{fields_whole}
use Rattle.data_forms.specs.Forms.{fields_of}
use Rattle.data_forms.proofs.Tables.{PutCons, PutTypes}
use Rattle.data_forms.proofs.making.+making.Given as goal

abbrev pub decreases-put_form : goal.decreases-put_form
decreases-put_form l = 5 * whole l.datas.now l.t.now + 3

abbrev pub decreases-shape_of : goal.decreases-shape_of
decreases-shape_of l = 5 * whole l.datas.now l.t.now + 2

abbrev pub decreases-data_shape : goal.decreases-data_shape
decreases-data_shape l = 5 * whole l.datas.now (data_of l.at (trees_of l.args.now)) + 1

abbrev pub decreases-put_field : goal.decreases-put_field
decreases-put_field l = 5 * whole l.datas.now (sub l.field.now (arguments (trees_of l.args.now))) + 4

abbrev pub decreases-field_places : goal.decreases-field_places
decreases-field_places l = 5 * fields_whole l.datas.now l.fields.now (arguments (trees_of l.args.now))

abbrev pub invariant-data_shape-loop-con : goal.invariant-data_shape-loop-con
invariant-data_shape-loop-con l =
    PutCons l.datas l.initial.forms.items l.forms.items (arguments (trees_of l.args)) (take l.con-index l.cons) l.places.items

abbrev pub invariant-field_places-loop-field : goal.invariant-field_places-loop-field
invariant-field_places-loop-field l =
    PutTypes l.datas l.initial.forms.items l.forms.items (fields_of (take l.field-index l.fields) (arguments (trees_of l.args))) l.places.items
