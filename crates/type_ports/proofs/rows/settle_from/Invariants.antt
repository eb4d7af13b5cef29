use Rattle.std.proofs.Common.{◌+◌, ◌*◌, ◌<◌, length}
use Rattle.std.specs.Prelude.{reverse}
use Rattle.chw_types.specs.References.{HasNoCycle}
use Rattle.type_ports.specs.RowsFound.{unknown_rows}
use Rattle.type_ports.proofs.Settling.{Working}
use Rattle.type_ports.proofs.rows.settle_from.Given as goal

abbrev pub invariant-loop-top : goal.invariant-loop-top
invariant-loop-top l = ((order : HasNoCycle l.datas) → Working l.datas order.place l.rows.items (reverse l.stack.items)) × (unknown_rows l.rows.items < unknown_rows l.fn.rows.items)

abbrev pub decreases-loop-top : goal.decreases-loop-top
decreases-loop-top l = 2 * unknown_rows l.rows.items + length l.stack.items
