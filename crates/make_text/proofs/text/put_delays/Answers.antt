use Rattle.make_text.specs.MakeText.{delay_text}
use Rattle.make_text.proofs.Joined.{one_more}
use Rattle.make_text.proofs.text.put_delays.Goals as goal

pub loop-k-preserved : goal.loop-k-preserved
loop-k-preserved c = one_more _ _ _ delay_text c.loop-k.k c.loop-k.invariant c.in_ok-put_delay.ensures
