-- the checks of what is left are still to be taken
use Rattle.std.proofs.Common.{◌≡◌, drop, map}
use Rattle.verilog_checks.specs.Least.{least_after}
use Rattle.verilog_rules.specs.Limits.{word_limit}
use Rattle.verilog_limits.proofs.limiting.limit_words.Given as goal

abbrev pub invariant-loop-word : goal.invariant-loop-word
invariant-loop-word l = least_after l.least (map word_limit (drop l.word-index l.words)) ≡ least_after l.initial.least (map word_limit l.words)
