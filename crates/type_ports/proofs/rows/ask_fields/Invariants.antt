use Rattle.std.proofs.Common.{◌≡◌, length, drop}
use Rattle.chw_types.specs.Arguments.{all_fields}
use Rattle.type_ports.specs.RowsFound.{fits_all, marked_all}
use Rattle.type_ports.proofs.rows.ask_fields.Given as goal

abbrev pub invariant-loop-con : goal.invariant-loop-con
invariant-loop-con l =
    (fits_all l.rows (length l.initial.asked) (all_fields (drop l.con-index l.cons)) ≡ fits_all l.rows (length l.initial.asked) (all_fields l.cons))
    × (marked_all l.rows (all_fields (drop l.con-index l.cons)) l.asked ≡ marked_all l.rows (all_fields l.cons) l.initial.asked)
