use Rattle.std.proofs.Common.{◌≡◌, ◌∙◌, IfOk, sym, arith, subst}
use Rattle.specialise.proofs.Closed.{lambda_here, lambda_behind, no_lambda}
use Rattle.specialise.proofs.closing.to_lambda.Goals as goal

pub loop-n-preserved : goal.loop-n-preserved
loop-n-preserved c =
    c.loop-n.invariant
    ∙ lambda_behind c.args.free.now c.loop-n.n (record { number = 0 }) c.args.x c.loop-n-test.true
    c.if-variable-x.false

pub returns-then-variable-x : goal.returns-then-variable-x
returns-then-variable-x c =
    subst (λ y. IfOk c.narrow.result (λ e. e ≡ y))
    (sym (c.loop-n.invariant
    ∙ lambda_here c.args.free.now c.loop-n.n (record { number = 0 }) c.args.x c.loop-n-test.true
    c.if-variable-x.true)) c.narrow.ensures.narrow

pub returns : goal.returns
returns c =
    sym (c.loop-n.invariant
    ∙ no_lambda c.args.free.now c.loop-n.n c.args.x (omega (arith, c.loop-n-test.false)))
