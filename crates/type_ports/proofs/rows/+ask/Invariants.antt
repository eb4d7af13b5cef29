use Rattle.std.proofs.Common.{◌≡◌, length, drop}
use Rattle.chw_types.specs.TypeView.{trees_of}
use Rattle.type_ports.specs.RowsFound.{fits_args, marked_args}
use Rattle.type_ports.proofs.rows.+ask.Given as goal

abbrev pub invariant-loop-i : goal.invariant-loop-i
invariant-loop-i l =
    (fits_args l.rows (length l.initial.asked) (drop l.i l.asks) (trees_of (drop l.i l.arg-items)) ≡ fits_args l.rows (length l.initial.asked) l.asks (trees_of l.arg-items))
    × (marked_args l.rows (drop l.i l.asks) (trees_of (drop l.i l.arg-items)) l.asked ≡ marked_args l.rows l.asks (trees_of l.arg-items) l.initial.asked)
