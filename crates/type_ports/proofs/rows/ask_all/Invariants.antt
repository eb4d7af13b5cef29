use Rattle.std.proofs.Common.{◌≡◌, length, drop}
use Rattle.type_ports.specs.RowsFound.{fits_all, marked_all}
use Rattle.type_ports.proofs.rows.ask_all.Given as goal

abbrev pub invariant-loop-t : goal.invariant-loop-t
invariant-loop-t l =
    (fits_all l.rows (length l.initial.asked) (drop l.t-index l.types) ≡ fits_all l.rows (length l.initial.asked) l.types)
    × (marked_all l.rows (drop l.t-index l.types) l.asked ≡ marked_all l.rows l.types l.initial.asked)
