use Rattle.std.proofs.Common.{◌≡◌}
use Rattle.answers.specs.MakeAnswer.Events.{lines_below}
use Rattle.answers.proofs.make_answer.events.make_stimulus.Given as goal

-- the lines so far
abbrev pub invariant-loop-number : goal.invariant-loop-number
invariant-loop-number l = l.text.items ≡ lines_below l.number
