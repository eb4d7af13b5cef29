-- the widths of the lines so far
use Rattle.std.proofs.Common.{◌≡◌, take}
use Rattle.verilog_rules.specs.WidthRules.{widths_of}
use Rattle.verilog_judge.proofs.sizes.bits_of_lines.Given as goal

abbrev pub invariant-loop-line : goal.invariant-loop-line
invariant-loop-line l = l.widths.items ≡ widths_of (take l.line-index l.lines)
