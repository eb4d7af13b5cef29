use Rattle.std.proofs.Common.{◌-◌, arith}
use Rattle.wave_text.proofs.Latest.{here, not_here}
use Rattle.wave_text.proofs.wave.latest.Goals as goal

pub returns-then-changes-k : goal.returns-then-changes-k
returns-then-changes-k c =
    here c.args.var c.args.changes.now (c.loop-k.k - 1) c.loop-k.k c.index-changes-k.result _ _ (omega arith) (omega arith) c.if-changes-k.true
    c.loop-k.invariant

pub loop-k-preserved : goal.loop-k-preserved
loop-k-preserved c =
    not_here c.args.var c.args.changes.now (c.loop-k.k - 1) c.loop-k.k c.index-changes-k.result _ (omega arith) (omega arith) c.if-changes-k.false
    c.loop-k.invariant
