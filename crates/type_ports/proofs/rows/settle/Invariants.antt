use Rattle.type_ports.specs.RowsRight.{IsWholeTable}
use Rattle.type_ports.specs.RowsFound.{unknown_rows}
use Rattle.type_ports.proofs.rows.settle.Given as goal

abbrev pub invariant-loop-first : goal.invariant-loop-first
invariant-loop-first l = IsWholeTable l.datas l.rows.items

abbrev pub decreases-loop-first : goal.decreases-loop-first
decreases-loop-first l = unknown_rows l.rows.items
