-- the resets so far are marked
use Rattle.std.proofs.Common.{take}
use Rattle.verilog_names.specs.Clocked.{IsMarks}
use Rattle.verilog_names.proofs.clocks.marks_of.Given as goal

abbrev pub invariant-loop-reset : goal.invariant-loop-reset
invariant-loop-reset l =
    IsMarks (take l.reset-index l.resets) l.marks.items
