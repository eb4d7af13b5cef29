use Rattle.std.proofs.Common.{◌≡◌, subst, IfOk}
use Rattle.work_lets.proofs.Marked.{kept_is}
use Rattle.work_lets.proofs.dead.kept.Goals as goal

pub returns : goal.returns
returns c =
    subst (λ y. IfOk c.or_body.result (λ e. e ≡ y))
    (kept_is c.in_ok-closing.closing c.args.marks.now c.args.bindings.now c.in_ok-group.group.items c.args.body.now c.in_ok-body.body c.in_ok-closing.ensures c.in_ok-group.ensures c.in_ok-body.ensures)
    c.or_body.ensures
