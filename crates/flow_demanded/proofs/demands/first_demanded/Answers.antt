use Rattle.std.proofs.Common.{arith}
use Rattle.flow_demanded.proofs.Parts.{true_and_false}
use Rattle.flow_demanded.proofs.Search.{no_candidate, not_unnamed, none_at_all}
use Rattle.flow_demanded.proofs.demands.first_demanded.Goals.{in-Some+in_ok-is_unnamed+else-branch, in_default}
use Rattle.flow_demanded.proofs.demands.first_demanded.Goals as goal

pub loop-i-preserved : goal.loop-i-preserved
loop-i-preserved c = elim c.match-candidate.branch [
  | in-Some+in_ok-is_unnamed+else-branch w ↦ not_unnamed c.args.form c.loop-i.i c.index-args-i.result w.in-Some.term.now c.loop-i-test.true c.index-args-i.is w.in-Some.ensures.some.0 (λ u. true_and_false w.in_ok-is_unnamed.field-0 (w.in_ok-is_unnamed.ensures.1 u) w.if-branch.false) c.loop-i.invariant
  | in_default w ↦ no_candidate c.args.form c.loop-i.i c.index-args-i.result c.loop-i-test.true c.index-args-i.is w.in_default.ensures.none c.loop-i.invariant
]

pub returns-clause-none : goal.returns-clause-none
returns-clause-none c = none_at_all c.args.form c.loop-i.i c.loop-i.invariant (omega (arith, c.loop-i-test.false))
