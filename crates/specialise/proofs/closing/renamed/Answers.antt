use Rattle.std.proofs.Common.{◌∙◌, ◌+◌, ap, sym}
use Rattle.rewriting.specs.Calls.{to_lambdas}
use Rattle.specialise.specs.Closed.{numbers}
use Rattle.specialise.proofs.Closed.{lifted_within, lifted_behind}
use Rattle.specialise.proofs.closing.renamed.Goals as goal

pub returns-then-x-under : goal.returns-then-x-under
returns-then-x-under c =
    sym (lifted_within c.args.under (to_lambdas (numbers c.args.free.now)) c.args.x.number
    c.if-x-under.true)

pub returns : goal.returns
returns c =
    c.in_ok-number.ensures
    ∙ ap (λ k. c.args.under + k) c.in_ok-outside.ensures
    ∙ sym (lifted_behind c.args.under (to_lambdas (numbers c.args.free.now)) c.args.x.number
    c.if-x-under.false)
