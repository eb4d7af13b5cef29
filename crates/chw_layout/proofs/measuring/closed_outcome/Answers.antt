use Rattle.std.proofs.Common.{refl, []}
use Rattle.chw_layout.proofs.Coming.{closed_comes}
use Rattle.chw_layout.proofs.Reaching.{reaches_all}
use Rattle.chw_layout.proofs.measuring.closed_outcome.Goals as goal

pub outcome_of-requires-clause-reaches : goal.outcome_of-requires-clause-reaches
outcome_of-requires-clause-reaches c = reaches_all c.args.datas.now c.requires.order c.args.t.now

pub returns-clause-comes : goal.returns-clause-comes
returns-clause-comes c = (closed_comes c.args.datas.now [] c.args.t.now c.in_ok-outcome_of.field-0 refl c.in_ok-outcome_of.ensures.comes).as_layout
