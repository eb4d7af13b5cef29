use Rattle.rewriting.specs.Named.{IsNamed}
use Rattle.letrec_runs.proofs.Loops.{named_more}
use Rattle.letrec_runs.proofs.resting.are_named.Goals as goal

pub loop-binding-preserved : goal.loop-binding-preserved
loop-binding-preserved c =
    named_more (IsNamed c.args.datas.now c.args.mode) c.args.group.now c.loop-binding.binding-index c.binding-item.result c.loop-binding-test.true c.binding-item.is
    (c.in_ok-is_named.ensures.0 c.if-not-branch.false) c.loop-binding.invariant
