use Rattle.std.proofs.Common.{append_assoc}
use Rattle.make_text.proofs.text.put_delay.Goals as goal

pub returns : goal.returns
returns c = simp (c.from.ensures, c.from-2.ensures, c.in_ok-put_number-2.ensures, c.in_ok-put_number.ensures, c.in_ok-put.ensures, append_assoc)
