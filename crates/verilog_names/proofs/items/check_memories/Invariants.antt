-- the words that are left are still to be looked at
use Rattle.std.proofs.Common.{◌≡◌, drop}
use Rattle.verilog_checks.specs.Least.{least_after}
use Rattle.verilog_rules.specs.NameRules.{memory_checks}
use Rattle.verilog_names.proofs.items.check_memories.Given as goal

abbrev pub invariant-loop-word : goal.invariant-loop-word
invariant-loop-word l =
    least_after l.least (memory_checks l.memory (drop l.word-index l.words)) ≡ least_after l.initial.least (memory_checks l.memory l.words)
