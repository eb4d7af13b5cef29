use Rattle.std.proofs.Common.{length}
use Rattle.verilog_tree.specs.Marks.{commas_before, connection_marks}
use Rattle.verilog_parse.specs.Reading.{Reads}
use Rattle.verilog_parse.specs.declared.rows.State.TheVariants as state
use Rattle.verilog_parse.proofs.items.connections.Given as goal

abbrev pub invariant-loop-connections : goal.invariant-loop-connections
invariant-loop-connections l = Reads state.Connections l.fn.cursor (commas_before connection_marks l.connections.items) state.Connections l.cursor

abbrev pub decreases-loop-connections : goal.decreases-loop-connections
decreases-loop-connections l = length l.cursor.rest.now
