use Rattle.std.proofs.Common.{ap, ◌∙◌}
use Rattle.chw_bits.specs.Bits.{bits_of}
use Rattle.answers.specs.MakeAnswer.Events.{input_at}
use Rattle.answers.proofs.make_answer.events.input_at.Goals as goal

pub returns-in-Ok : goal.returns-in-Ok
unfolding input_at
returns-in-Ok c = c.in-Ok.ensures.bits.1 ∙ ap (bits_of 16) c.from.ensures
