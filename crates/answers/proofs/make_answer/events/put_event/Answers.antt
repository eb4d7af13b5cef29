use Rattle.std.proofs.Common.{append_assoc}
use Rattle.answers.proofs.make_answer.events.put_event.Goals as goal

pub returns : goal.returns
returns c = simp (c.in_ok-put-2.ensures, c.in_ok-put_input.ensures, c.in_ok-put.ensures, c.in_ok-put_domains.ensures, append_assoc)
