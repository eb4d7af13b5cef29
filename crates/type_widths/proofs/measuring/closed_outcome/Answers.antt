use Rattle.std.proofs.Common.{[], sym, ap, subst, ◌∙◌, length}
use Rattle.std.proofs.lemmas.Result.{IfOk-weaker}
use Rattle.chw_layout.specs.Outcomes.{Reaches}
use Rattle.chw_layout.proofs.Reaching.{reaches_all}
use Rattle.type_widths.specs.Outcomes.{Comes, ComesUnder}
use Rattle.type_widths.proofs.Coming.{closed_comes}
use Rattle.type_widths.proofs.measuring.closed_outcome.Goals as goal

pub outcome_of-requires : goal.outcome_of-requires
outcome_of-requires c =
    subst (λ n. Reaches c.args.widths.now n c.args.t.now) (sym (ap length c.datas-left.ensures.datas))
    (reaches_all c.args.widths.now c.datas-left.ensures.order c.args.t.now)

pub returns-clause-comes : goal.returns-clause-comes
returns-clause-comes c =
    IfOk-weaker c.outcome_of.result (ComesUnder c.args.widths.now [] c.args.t.now) (Comes c.args.widths.now c.args.t.now)
    (λ o under. closed_comes c.args.widths.now c.args.t.now o under) c.outcome_of.ensures.comes
