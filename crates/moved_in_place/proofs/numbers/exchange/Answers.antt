use Rattle.std.proofs.Common.{◌≡◌, IfOk, sym, subst, arith}
use Rattle.chw_terms.proofs.Renumbered.{exchanged_first, exchanged_next, exchanged_above}
use Rattle.moved_in_place.proofs.numbers.exchange.Goals as goal

pub returns-then-x-first : goal.returns-then-x-first
returns-then-x-first c =
    subst (λ n. IfOk c.deeper.result (λ y. y ≡ n))
    (sym (exchanged_first 0 c.args.first c.args.next c.args.x (omega arith) (omega (arith, c.if-x-first.true))))
    c.deeper.ensures

pub returns-then-x-first-2 : goal.returns-then-x-first-2
returns-then-x-first-2 c =
    sym (exchanged_next 0 c.args.first c.args.next c.args.x (omega (arith, c.if-x-first.false)) (omega (arith, c.if-x-first.false, c.if-x-first-2.true)))

pub returns-else-x-first-2 : goal.returns-else-x-first-2
returns-else-x-first-2 c =
    sym (exchanged_above 0 c.args.first c.args.next c.args.x (omega (arith, c.if-x-first.false, c.if-x-first-2.false)))
