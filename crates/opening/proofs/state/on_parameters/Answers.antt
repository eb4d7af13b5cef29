use Rattle.std.proofs.Common.{◌≡◌, ◌∙◌, ap, subst, IfOk, length}
use Rattle.rewriting.specs.Origins.{on_variables, under_each}
use Rattle.opening.specs.Expanded.{on_parameters}
use Rattle.opening.proofs.state.on_parameters.Goals as goal

pub returns : goal.returns
returns c =
    let e = c.args.term in
    let params = c.in_ok-params.params in
    let count = c.in_ok-count.ensures.narrow ∙ c.len.ensures ∙ params.ok.0 in
    let inner = c.in_ok-body.ensures ∙ ap (on_variables e 0) count in
    let whole : under_each params.items c.in_ok-body.body ≡ on_parameters c.args.ty.now e =
    ap (under_each params.items) inner
    ∙ ap (λ ts. under_each ts (on_variables e 0 (length ts))) c.in_ok-params.ensures in
    subst (λ y. IfOk c.under_each.result (λ e. e ≡ y)) whole c.under_each.ensures
