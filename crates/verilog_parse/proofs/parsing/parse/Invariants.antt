use Rattle.std.proofs.Common.{length}
use Rattle.std.specs.List.{flat_map}
use Rattle.verilog_tree.specs.Marks.{module_marks}
use Rattle.verilog_parse.specs.Reading.{Reads}
use Rattle.verilog_parse.specs.Rests.{IsAtModule}
use Rattle.verilog_parse.specs.declared.rows.State.TheVariants as state
use Rattle.verilog_parse.proofs.parsing.parse.Given as goal

abbrev pub invariant-loop-earlier : goal.invariant-loop-earlier
invariant-loop-earlier l = Reads state.Text l.initial.cursor (flat_map module_marks l.earlier.items) l.state l.cursor × IsAtModule l.state l.cursor

abbrev pub decreases-loop-earlier : goal.decreases-loop-earlier
decreases-loop-earlier l = length l.cursor.rest.now
