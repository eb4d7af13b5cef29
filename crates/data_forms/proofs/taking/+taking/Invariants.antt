-- What falls from call to call, and what the loops keep.
use Rattle.std.proofs.Common.{◌+◌, ◌*◌, map}
use Rattle.data_forms.specs.Forms.{type_at}
use Rattle.data_forms.proofs.Walks.{FieldsTaken, RowTaken, above}
use Rattle.data_forms.proofs.taking.+taking.Given as goal

abbrev pub decreases-takes : goal.decreases-takes
decreases-takes l = 3 * l.at + 2

abbrev pub decreases-takes_row : goal.decreases-takes_row
decreases-takes_row l = 3 * l.of + 3

abbrev pub decreases-takes_fields : goal.decreases-takes_fields
decreases-takes_fields l = 3 * above l.places.now

abbrev pub invariant-takes_row-loop-place : goal.invariant-takes_row-loop-place
invariant-takes_row-loop-place l = RowTaken l.datas (type_at l.forms l.of) l.count l.width l.bits l._place l.rest

abbrev pub invariant-takes_fields-loop-at : goal.invariant-takes_fields-loop-at
invariant-takes_fields-loop-at l = FieldsTaken l.datas (map (type_at l.forms) l.places) l.bits l.at-index l.rest
