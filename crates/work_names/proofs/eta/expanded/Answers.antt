use Rattle.std.proofs.Common.{◌≡◌, ◌∙◌, ap, subst, IfOk}
use Rattle.chw_terms.specs.TermMoves.{shift}
use Rattle.rewriting.specs.Origins.{on_variables, under_each}
use Rattle.work_names.proofs.eta.expanded.Goals as goal

pub returns : goal.returns
returns c =
    let count = c.in_ok-count.ensures.narrow ∙ c.len.ensures ∙ c.args.params.ok.0 in
    let body = c.in_ok-body.ensures ∙ ap (λ e. on_variables e 0 c.in_ok-count.count) c.in_ok-inner.ensures ∙ ap (λ n. on_variables (shift c.args.term.now 0 n) 0 n) count in
    subst (λ y. IfOk c.under_each.result (λ e. e ≡ y)) (ap (under_each c.args.params.items) body) c.under_each.ensures
