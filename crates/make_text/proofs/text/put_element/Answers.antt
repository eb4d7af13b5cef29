use Rattle.std.proofs.Common.{append_assoc}
use Rattle.make_text.proofs.text.put_element.Goals as goal

pub returns : goal.returns
returns c = simp (c.in_ok-put_number.ensures, c.from.ensures, c.in_ok-put.ensures, append_assoc)
