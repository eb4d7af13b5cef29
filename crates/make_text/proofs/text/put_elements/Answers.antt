use Rattle.make_text.specs.MakeText.{element_text}
use Rattle.make_text.proofs.Joined.{one_more}
use Rattle.make_text.proofs.text.put_elements.Goals as goal

pub loop-k-preserved : goal.loop-k-preserved
loop-k-preserved c = one_more _ _ _ element_text c.loop-k.k c.loop-k.invariant c.in_ok-put_element.ensures
