use Rattle.std.proofs.Common.{refl}
use Rattle.letrec_runs.proofs.Settled.{settled_nothing, settled_more}
use Rattle.letrec_runs.proofs.quiet.settle_all.Goals as goal

pub loop-init : goal.loop-init
loop-init c = settled_nothing c.args.apart c.args.apart refl

pub loop-preserved : goal.loop-preserved
loop-preserved c = settled_more c.args.apart c.loop.apart c.in_ok-next.next c.loop.invariant c.in_ok-next.ensures

pub returns-then-not-quiet : goal.returns-then-not-quiet
returns-then-not-quiet c = settled_more c.args.apart c.loop.apart c.in_ok-next.next c.loop.invariant c.in_ok-next.ensures
