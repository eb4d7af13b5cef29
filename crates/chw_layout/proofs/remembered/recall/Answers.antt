use Rattle.std.proofs.Common.{sym, ◌∙◌}
use Rattle.chw_layout.proofs.Recalling.{recalled}
use Rattle.chw_layout.proofs.remembered.recall.Goals as goal

pub returns-then-same_outcomes : goal.returns-then-same_outcomes
returns-then-same_outcomes c =
    recalled c.args.known.now c.loop-instance.instance-index c.instance-item.result c.args.at c.args.outs.now c.loop-instance-test.true c.instance-item.is c.if-instance-at.true (sym c.deref.ensures.value ∙ c.if-same_outcomes.ensures)
