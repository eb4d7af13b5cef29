use Rattle.std.proofs.Common.{◌+◌, sym, ap, ◌∙◌, arith}
use Rattle.work_lets.specs.Closings.{closes}
use Rattle.work_lets.proofs.Closed.{closed_var, lifted_below, lifted_above}
use Rattle.work_lets.proofs.closing.close_var.Goals as goal

pub returns-then-x-at : goal.returns-then-x-at
returns-then-x-at c =
    let k = c.args.closing.now in
    c.var.ensures ∙ closed_var k c.args.at c.args.x.number c.args.x.number (sym (lifted_below c.args.at c.args.x.number (closes k) c.if-x-at.true))

pub returns : goal.returns
returns c =
    let k = c.args.closing.now in
    let to = c.in_ok-number.ensures ∙ ap (λ n. c.args.at + n) c.in_ok-place_of.ensures ∙ sym (lifted_above c.args.at c.args.x.number (closes k) (omega (arith, c.if-x-at.false))) in
    c.var-2.ensures ∙ closed_var k c.args.at c.args.x.number c.in_ok-number.number to
