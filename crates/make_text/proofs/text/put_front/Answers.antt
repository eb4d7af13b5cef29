use Rattle.std.proofs.Common.{append_assoc}
use Rattle.make_text.proofs.text.put_front.Goals as goal

pub returns : goal.returns
returns c = simp (c.in_ok-put-7.ensures, c.in_ok-put-6.ensures, c.in_ok-put-5.ensures, c.in_ok-put-4.ensures, c.in_ok-put-3.ensures, c.in_ok-put-2.ensures, c.in_ok-put.ensures, append_assoc)
