use Rattle.std.proofs.Common.{◌≡◌, drop}
use Rattle.chw_types.specs.TypeView.{trees_of}
use Rattle.type_ports.specs.RowsFound.{unknown_args}
use Rattle.type_ports.proofs.rows.+unknown_in.Given as goal

abbrev pub invariant-loop-arg : goal.invariant-loop-arg
invariant-loop-arg l = unknown_args l.rows (trees_of (drop l.arg-index l.arg-items)) ≡ unknown_args l.rows (trees_of l.arg-items)
