use Rattle.std.proofs.Common.{append_assoc}
use Rattle.answers.proofs.make_answer.printing.put_line.Goals as goal

pub returns : goal.returns
returns c = simp (c.in_ok-put-2.ensures, c.in_ok-put_number.ensures, c.in_ok-put.ensures, append_assoc)
