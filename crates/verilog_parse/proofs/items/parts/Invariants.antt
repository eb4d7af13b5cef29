use Rattle.std.proofs.Common.{length}
use Rattle.verilog_parse.specs.Rests.{parts_marks}
use Rattle.verilog_parse.specs.Reading.{Reads}
use Rattle.verilog_parse.specs.declared.rows.State.TheVariants as state
use Rattle.verilog_parse.proofs.items.parts.Given as goal

abbrev pub invariant-loop-parts : goal.invariant-loop-parts
invariant-loop-parts l = Reads state.Parts l.fn.cursor (parts_marks l.parts.items) state.Parts l.cursor

abbrev pub decreases-loop-parts : goal.decreases-loop-parts
decreases-loop-parts l = length l.cursor.rest.now
