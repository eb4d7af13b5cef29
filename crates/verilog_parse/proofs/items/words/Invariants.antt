use Rattle.std.proofs.Common.{length}
use Rattle.std.specs.List.{flat_map}
use Rattle.verilog_tree.specs.Marks.{word_marks}
use Rattle.verilog_parse.specs.Reading.{Reads}
use Rattle.verilog_parse.specs.declared.rows.State.TheVariants as state
use Rattle.verilog_parse.proofs.items.words.Given as goal

abbrev pub invariant-loop-words : goal.invariant-loop-words
invariant-loop-words l = Reads state.Words l.fn.cursor (flat_map word_marks l.words.items) state.Words l.cursor

abbrev pub decreases-loop-words : goal.decreases-loop-words
decreases-loop-words l = length l.cursor.rest.now
