use Rattle.std.proofs.Common.{ap, arith}
use Rattle.chw_terms.specs.TermTree.{made}
use Rattle.chw_terms.specs.TermView.{applied}
use Rattle.specialise.proofs.Scoped.{args_more, all_args}
use Rattle.specialise.proofs.trial.on_free.Goals as goal

pub loop-at-preserved : goal.loop-at-preserved
loop-at-preserved c =
    args_more c.args.free.now c.loop-at.at-index (record { number = 0 }) c.loop-at.args.items
    c.push.new.self.items c.var.result c.loop-at-test.true c.loop-at.invariant c.var.ensures
    c.in_ok-push.ensures.items

pub returns : goal.returns
returns c =
    ap (applied (made c.args.number.number))
    (all_args c.args.free.now c.loop-at.at-index c.loop-at.args.items
    (omega (arith, c.loop-at-test.false)) c.loop-at.invariant)
