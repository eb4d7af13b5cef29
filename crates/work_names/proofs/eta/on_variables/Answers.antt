use Rattle.std.proofs.Common.{◌∙◌, ap, refl, arith}
use Rattle.chw_terms.specs.TermTree.{app}
use Rattle.work_names.proofs.Lambdas.{on_none, on_one_more, on_all}
use Rattle.work_names.proofs.eta.on_variables.Goals as goal

pub loop-n-preserved : goal.loop-n-preserved
loop-n-preserved c =
    on_one_more c.args.term c.loop-n.done c.in_ok-done.done c.args.count c.loop-n.n c.loop-n-test.true c.loop-n.invariant (c.in_ok-done.ensures ∙ ap (app c.loop-n.done) c.var.ensures)

pub returns : goal.returns
returns c =
    on_all c.args.term c.loop-n.done c.args.count c.loop-n.n (omega (arith, c.loop-n.auto.n-end)) (omega (arith, c.loop-n-test.false)) c.loop-n.invariant

pub loop-n-init : goal.loop-n-init
loop-n-init c = on_none c.args.term c.args.term c.args.count refl
