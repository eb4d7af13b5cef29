use Rattle.std.proofs.Common.{◌≡◌, ◌∙◌, ap, sym, subst, IfOk, [], length, eq-eqb}
use Rattle.std.proofs.lemmas.Bool.{true≢false}
use Rattle.work_lets.proofs.Lets.{or_body_some}
use Rattle.work_lets.proofs.groups.or_body.Goals as goal

pub returns : goal.returns
returns c =
    let group = c.args.group.items in
    let some : group ≡ [] → ⊥ = λ e. true≢false (sym (eq-eqb c.args.group.len 0 (c.args.group.ok.0 ∙ ap length e)) ∙ sym c.is_empty.ensures ∙ c.if-is_empty.false) in
    subst (λ y. IfOk c.letrec.result (λ e. e ≡ y)) (or_body_some group c.args.body some) c.letrec.ensures
