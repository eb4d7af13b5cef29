use Rattle.term_frames.proofs.Built.{for_step}
use Rattle.term_frames.proofs.constructors.for_each.Goals as goal

pub loop-i-preserved : goal.loop-i-preserved
loop-i-preserved c = for_step c.args.kinds.now c.loop-i.i _ c.loop-i.done c.in_ok-done.done _ c.loop-i-test.true c.in_ok-done.ensures c.loop-i.invariant
