use Rattle.std.proofs.Common.{◌≡◌, ◌∙◌, ◌+◌, ◌-◌, length, get_or, ap, sym, subst, arith, IfOk}
use Rattle.open_letrec.specs.declared.places.TheConstants.{OUTSIDE}
use Rattle.open_letrec.specs.Places.{number_of}
use Rattle.open_letrec.proofs.Ids.{number_waiting, number_settled, number_outside}
use Rattle.open_letrec.proofs.places.Places.number.Goals as goal

pub returns-then-at-waiting : goal.returns-then-at-waiting
returns-then-at-waiting c =
    let p = c.args.self.now in
    c.index.ensures ∙ sym (number_waiting p c.args.index c.index.result.now (omega (arith, c.if-at-waiting.true, c.len-waiting.ensures, p.waiting.ok.0)))

pub returns-then-before-settled : goal.returns-then-before-settled
returns-then-before-settled c =
    let p = c.args.self.now in
    let x = c.args.index in
    let y = x - c.len-waiting.result in
    let waiting : c.len-waiting.result ≡ length p.waiting.items = omega (arith, c.len-waiting.ensures, p.waiting.ok.0) in
    let settled : c.len-settled.result ≡ length p.settled.items = omega (arith, c.len-settled.ensures, p.settled.ok.0) in
    let e : y ≡ x - length p.waiting.items = ap (λ n. x - n) waiting in
    let place : c.len-settled.result - 1 - y ≡ length p.settled.items - 1 - y = ap (λ n. n - 1 - y) settled in
    let there = c.index-then-before-settled.result.now in
    c.index-then-before-settled.ensures ∙ ap (λ n. get_or p.settled.items n there) place
    ∙ sym (number_settled p x y there (omega (arith, c.if-at-waiting.false, waiting)) e (omega (arith, c.if-before-settled.true, settled)))

pub returns : goal.returns
returns c =
    let p = c.args.self.now in
    let x = c.args.index in
    let y = x - c.len-waiting.result in
    let waiting : c.len-waiting.result ≡ length p.waiting.items = omega (arith, c.len-waiting.ensures, p.waiting.ok.0) in
    let settled : c.len-settled.result ≡ length p.settled.items = omega (arith, c.len-settled.ensures, p.settled.ok.0) in
    let e : y ≡ x - length p.waiting.items = ap (λ n. x - n) waiting in
    let outer : c.in_ok-outer.outer ≡ y - length p.settled.items = c.in_ok-outer.ensures.narrow ∙ ap (λ n. y - n) settled in
    let is : OUTSIDE + c.in_ok-outer.outer ≡ number_of p x =
    ap (λ n. OUTSIDE + n) outer
    ∙ sym (number_outside p x y (omega (arith, c.if-at-waiting.false, waiting)) e (omega (arith, c.if-before-settled.false, settled))) in
    subst (λ n. IfOk c.sum.result (λ x. x ≡ n)) is c.sum.ensures
