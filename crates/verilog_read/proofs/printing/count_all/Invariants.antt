-- the modules so far are counted
use Rattle.std.proofs.Common.{take}
use Rattle.std.specs.List.{AllByRecursion}
use Rattle.verilog_text.specs.VText.{IsCounted}
use Rattle.verilog_read.proofs.printing.count_all.Given as goal

abbrev pub invariant-loop-body : goal.invariant-loop-body
invariant-loop-body l = AllByRecursion IsCounted (take l.body-index l.body-items)
