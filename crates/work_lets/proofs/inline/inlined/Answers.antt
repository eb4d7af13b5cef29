use Rattle.std.proofs.Common.{◌≡◌, subst, IfOk}
use Rattle.work_lets.proofs.Inlined.{inlined_is}
use Rattle.work_lets.proofs.inline.inlined.Goals as goal

pub returns : goal.returns
returns c =
    subst (λ y. IfOk c.put_for_name-outcome.result (λ e. e ≡ y))
    (inlined_is c.args.front.now c.args.back.now c.args.side.now c.args.body.now c.in_ok-side.side c.in_ok-narrow.field-0 (c.in_ok-narrow.ensures.narrow) c.in_ok-side.ensures)
    c.put_for_name-outcome.ensures
