use Rattle.std.proofs.Common.{length}
use Rattle.verilog_tree.specs.Marks.{commas_before, port_marks}
use Rattle.verilog_parse.specs.Reading.{Reads}
use Rattle.verilog_parse.specs.declared.rows.State.TheVariants as state
use Rattle.verilog_parse.proofs.parsing.ports.Given as goal

abbrev pub invariant-loop-ports : goal.invariant-loop-ports
invariant-loop-ports l = Reads state.Ports l.fn.cursor (commas_before port_marks l.ports.items) state.Ports l.cursor

abbrev pub decreases-loop-ports : goal.decreases-loop-ports
decreases-loop-ports l = length l.cursor.rest.now
