-- the names of the lines so far
use Rattle.std.proofs.Common.{◌≡◌, map, take}
use Rattle.verilog_tree.specs.declared.word.Line.{Line}
use Rattle.verilog_judge.proofs.module_drivers.names_of_lines.Given as goal

abbrev pub invariant-loop-line : goal.invariant-loop-line
invariant-loop-line l = l.names.items ≡ map (λ (x : Line). x.name) (take l.line-index l.lines)
