use Rattle.std.proofs.Common.{◌≡◌, drop}
use Rattle.type_ports.specs.RowsFound.{unknown_among}
use Rattle.type_ports.proofs.rows.unknown_among.Given as goal

abbrev pub invariant-loop-t : goal.invariant-loop-t
invariant-loop-t l = unknown_among l.rows (drop l.t-index l.types) ≡ unknown_among l.rows l.types
