-- the checks of the words that are left are still to be taken
use Rattle.std.proofs.Common.{◌≡◌, drop}
use Rattle.verilog_checks.specs.Least.{least_after}
use Rattle.verilog_rules.specs.WidthRules.{word_checks}
use Rattle.verilog_judge.proofs.registers.check_words.Given as goal

abbrev pub invariant-loop-place : goal.invariant-loop-place
invariant-loop-place l = least_after l.least (word_checks l.n l.count l.place (drop l.place l.words)) ≡ least_after l.initial.least (word_checks l.n l.count 0 l.words)
