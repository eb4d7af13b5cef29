use Rattle.std.proofs.Common.{◌≡◌, ◌∙◌, sym, subst, IfOk}
use Rattle.flow_cases.proofs.Makings.{let_of_some, not_empty}
use Rattle.flow_cases.proofs.parts.or_body.Goals as goal

pub returns : goal.returns
returns c =
    let group = c.args.group in
    subst (λ y. IfOk c.letrec.result (λ e. e ≡ y))
    (sym (let_of_some group.items c.args.body (not_empty group.items group.len group.ok.0 (sym c.is_empty.ensures ∙ c.if-is_empty.false))))
    c.letrec.ensures
