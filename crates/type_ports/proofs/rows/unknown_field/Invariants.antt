use Rattle.std.proofs.Common.{◌≡◌, drop}
use Rattle.chw_types.specs.Arguments.{all_fields}
use Rattle.type_ports.specs.RowsFound.{unknown_among}
use Rattle.type_ports.proofs.rows.unknown_field.Given as goal

abbrev pub invariant-loop-con : goal.invariant-loop-con
invariant-loop-con l = unknown_among l.rows (all_fields (drop l.con-index l.cons)) ≡ unknown_among l.rows (all_fields l.cons)
