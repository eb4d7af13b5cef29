use Rattle.std.proofs.Common.{arith}
use Rattle.net_rules.proofs.EachItem.{decided, refused}
use Rattle.net_rules.proofs.Rising.{first_rises, none_left, rise_from}
use Rattle.net_rules.proofs.well_formed.ports.rise_below.Goals as goal

pub returns-then-number-least : goal.returns-then-number-least
returns-then-number-least c = refused (λ h.
    let l = c.loop-domain in
    let first = first_rises l.least c.args.end c.args.domains.now l.domain-index (record { number = 0 }) c.loop-domain-test.true (l.invariant.rest h) in
    omega (arith, first.0, c.if-number-least.true))

pub returns-then-end-number : goal.returns-then-end-number
returns-then-end-number c = refused (λ h.
    let l = c.loop-domain in
    let first = first_rises l.least c.args.end c.args.domains.now l.domain-index (record { number = 0 }) c.loop-domain-test.true (l.invariant.rest h) in
    omega (arith, first.1, c.if-end-number.true))

pub loop-domain-preserved : goal.loop-domain-preserved
loop-domain-preserved c =
    let l = c.loop-domain in
    let ds = c.args.domains.now in
    record {
      whole = λ h. l.invariant.whole (rise_from l.least c.args.end ds l.domain-index _ c.loop-domain-test.true (c.if-number-least.false, c.if-end-number.false, h));
      rest = λ h. (first_rises l.least c.args.end ds l.domain-index _ c.loop-domain-test.true (l.invariant.rest h)).2;
    }

pub returns : goal.returns
returns c =
    let l = c.loop-domain in
    decided (l.invariant.whole (none_left l.least c.args.end c.args.domains.now l.domain-index c.loop-domain-test.false))
