-- the checks of the lines that are left are still to be taken
use Rattle.std.proofs.Common.{◌≡◌, drop, map}
use Rattle.verilog_checks.specs.Least.{least_after}
use Rattle.verilog_rules.specs.WidthRules.{range_check}
use Rattle.verilog_tree.specs.declared.word.Line.{Line}
use Rattle.verilog_judge.proofs.parts.check_lines.Given as goal

abbrev pub invariant-loop-line : goal.invariant-loop-line
invariant-loop-line l = least_after l.least (map (λ (x : Line). range_check x.range) (drop l.line-index l.lines)) ≡ least_after l.initial.least (map (λ (x : Line). range_check x.range) l.lines)
