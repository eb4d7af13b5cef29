use Rattle.std.proofs.Common.{◌≡◌, ◌+◌, ◌-◌, ◌∙◌, ap, subst, IfOk, length, get_or, arith}
use Rattle.work_lets.proofs.Closed.{within_table, behind_table}
use Rattle.work_lets.proofs.closing.place_of.Goals as goal

pub returns-then-number-bound : goal.returns-then-number-bound
returns-then-number-bound c =
    let k = c.args.closing.now in
    let same = c.as_slice-places.ensures.value in
    let long = ap length same in
    ap (λ ps. get_or ps c.args.number 0) same
    ∙ within_table k.places.items k.left c.args.number 0 (omega (arith, c.if-number-bound.true, c.in_ok-bound.ensures.narrow, long))

pub returns-else-number-bound : goal.returns-else-number-bound
returns-else-number-bound c =
    let k = c.args.closing.now in
    let bound = c.in_ok-bound.ensures.narrow ∙ ap length c.as_slice-places.ensures.value in
    subst (λ y. IfOk c.deeper.result (λ n. n ≡ y))
    (ap (λ b. k.left + (c.args.number - b)) bound ∙ behind_table k.places.items k.left c.args.number (omega (arith, c.if-number-bound.false, bound)))
    c.deeper.ensures
