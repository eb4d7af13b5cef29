use Rattle.std.proofs.Common.{MatchOption, subst}
use Rattle.rewriting.specs.Origins.{origins_of}
use Rattle.rewriting.specs.Spots.{spot_of}
use Rattle.trials.specs.Trials.{built, HasNoInstance, IsTrial}
use Rattle.letrec_runs.proofs.Tried.{side_step}
use Rattle.letrec_runs.proofs.trial.try_side.Goals as goal

pub returns-clause-step : goal.returns-clause-step
returns-clause-step g c =
    let p = c.args.scene.now.program.now in
    let made = c.args.scene.now.made.now in
    let o = origins_of c.args.scene.now in
    let at = spot_of c.args.place.now in
    let e = c.args.side.now in
    let trial = c.in-Some.trial in
    let first = subst (λ r. MatchOption r (HasNoInstance built o at e) (IsTrial built p made at e)) c.in-Some.is c.in_ok-trial.ensures.first in
    side_step p made at c.args.most e c.in-Some-put_of.made.new c.in-Some-put_of.made.rule trial first c.in-Some-put_of.ensures (c.in_ok-may_be_put.ensures c.if-not-branch.false)
