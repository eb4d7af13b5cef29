use Rattle.std.proofs.Common.{◌≡◌, ◌+◌, ◌-◌, drop, length}
use Rattle.verilog_parse.specs.Slots.{fitting, tokens_in}
use Rattle.verilog_parse.proofs.slot.fitting.Given as goal

abbrev pub invariant-loop-n : goal.invariant-loop-n
invariant-loop-n l = fitting l.slots (tokens_in l.tokens) ≡ l.n + fitting (drop l.n l.slots) (tokens_in (drop l.n l.tokens))

abbrev pub decreases-loop-n : goal.decreases-loop-n
decreases-loop-n l = length l.slots - l.n
