use Rattle.std.proofs.Common.{◌↔◌, ◌≡◌, IsTrue, Some, length, map, subst}
use Rattle.prim_bits.specs.Widths.{argument_widths}
use Rattle.work_prims.proofs.Taking.{not_taken, not_narrow, taken}
use Rattle.work_prims.proofs.widths.takes_numbers.Goals as goal

pub returns-then-not-takes : goal.returns-then-not-takes
returns-then-not-takes c =
    let is = subst (λ row. IsTrue c.takes.result ↔ argument_widths row c.args.nats.now ≡ Some (map length c.args.words.now)) c.of.ensures c.takes.ensures in
    not_taken c.args.p c.args.nats.now c.args.words.now c.takes.result is c.if-not-takes.true

pub returns-then-not-are_narrow : goal.returns-then-not-are_narrow
returns-then-not-are_narrow c =
    not_narrow c.args.p c.args.nats.now c.args.words.now c.are_narrow.result c.are_narrow.ensures c.if-not-are_narrow.true

pub returns : goal.returns
returns c =
    let is = subst (λ row. IsTrue c.takes.result ↔ argument_widths row c.args.nats.now ≡ Some (map length c.args.words.now)) c.of.ensures c.takes.ensures in
    taken c.args.p c.args.nats.now c.args.words.now c.takes.result c.are_narrow.result c.is_narrow.result is c.if-not-takes.false c.are_narrow.ensures c.if-not-are_narrow.false c.is_narrow.ensures
