use Rattle.std.proofs.Common.{◌<◌, arith}
use Rattle.std.proofs.lemmas.Result.{IfOk-weaker}
use Rattle.chw_terms.specs.Depth.{depth}
use Rattle.letrec_runs.proofs.trial.may_be_put.Goals as goal

pub returns : goal.returns
returns c =
    let shallow : depth c.args.new.now < c.args.most = omega (arith, c.depth.ensures, c.if-depth-most.false, c.ranges.most.fits) in
    IfOk-weaker c.keeps.result _ _ (λ yes k t. ((λ n. k t n), shallow)) c.keeps.ensures
