use Rattle.std.proofs.Common.{◌∙◌, ap, arith}
use Rattle.chw_terms.specs.TermTree.{app}
use Rattle.opening.proofs.Building.{on_one_more}
use Rattle.opening.proofs.state.on_variables.Goals as goal

pub loop-number-preserved : goal.loop-number-preserved
loop-number-preserved c =
    let left = c.loop-number in
    let next = c.in_ok-done.ensures ∙ ap (app left.done) c.var.ensures in
    on_one_more c.args.term left.done c.in_ok-done.done c.args.count left.number
    (omega (arith, c.loop-number-test.true)) next left.invariant
