use Rattle.std.proofs.Common.{◌≡◌, ◌∙◌, sym, subst, IfOk}
use Rattle.rewriting.specs.Runs.{first_body, with_definition}
use Rattle.specialise.proofs.Lambdas.{first_other, first_behind}
use Rattle.specialise.proofs.opened.+first_body.Goals as goal

pub returns-in_default : goal.returns-in_default
returns-in_default t c =
    let p = c.args.program.now in
    let same = first_other p c.origin.inside.head c.origin.inside.args.items c.in_default.not-Lam in
    subst (λ y. IfOk c.head_with_definition.result (λ e. e ≡ y))
    (sym (subst (λ e. first_body p e ≡ with_definition p e) c.origin.view_is same)) c.head_with_definition.ensures

pub returns-then-not-is_empty : goal.returns-then-not-is_empty
returns-then-not-is_empty t c =
    let p = c.args.program.now in
    let args = c.origin.inside.args in
    let same = first_behind p c.origin.inside.head args.items args.len args.ok.0
    (sym c.is_empty.ensures ∙ c.if-not-is_empty.true) in
    subst (λ y. IfOk c.head_with_definition-then-not-is_empty.result (λ e. e ≡ y))
    (sym (subst (λ e. first_body p e ≡ with_definition p e) c.origin.view_is same))
    c.head_with_definition-then-not-is_empty.ensures
