use Rattle.term_frames.proofs.Built.{from_next}
use Rattle.term_frames.proofs.constructors.from_each.Goals as goal

pub loop-i-preserved : goal.loop-i-preserved
loop-i-preserved c =
    from_next c.args.fields.now c.loop-i.i c.index-fields-fields.result c.in_ok-from.from c.loop-i.done c.in_ok-done.done _ c.loop-i-test.true c.index-fields-fields.is c.in_ok-from.ensures c.in_ok-done.ensures c.loop-i.invariant
