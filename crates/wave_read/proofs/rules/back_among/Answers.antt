use Rattle.std.proofs.Common.{◌-◌, arith}
use Rattle.wave_read.proofs.Rising.{back_here, rise_all, rise_first, rise_more}
use Rattle.wave_read.proofs.rules.back_among.Goals as goal

pub loop-k-init : goal.loop-k-init
loop-k-init c = λ changes. rise_first c.args.moments.now changes

pub returns-then-moment-moments-clause-some : goal.returns-then-moment-moments-clause-some
returns-then-moment-moments-clause-some c = λ changes.
    let k = c.loop-k.k in
    back_here c.args.moments.now changes (k - 1) k _ (omega arith) (omega (arith, c.loop-k-test.true)) c.if-moment-moments.true (c.loop-k.invariant changes)

pub loop-k-preserved : goal.loop-k-preserved
loop-k-preserved c = λ changes.
    let k = c.loop-k.k in
    rise_more c.args.moments.now changes (k - 1) k _ (omega arith) (omega (arith, c.loop-k-test.true)) c.if-moment-moments.false (c.loop-k.invariant changes)

pub returns-clause-none : goal.returns-clause-none
returns-clause-none c = λ changes. rise_all c.args.moments.now changes c.loop-k.k (omega (arith, c.loop-k-test.false)) (c.loop-k.invariant changes)
