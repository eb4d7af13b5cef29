use Rattle.std.proofs.Common.{◌+◌, ◌^◌, ◌<◌, ap, sym, subst, ◌∙◌}
use Rattle.chw_bits.specs.Bits.{bits_of}
use Rattle.chw_bits.proofs.WordBits.{joined_bits, joined_below, joined_number, joined_fits}
use Rattle.chw_bits.proofs.machine.joined.Goals as goal

pub overflow_add-result : goal.overflow_add-result
overflow_add-result c = record { fits = joined_fits c.args.width c.args.a c.args.b c.from.result c.raised.result c.requires.whole c.requires.high c.requires.low c.raised.ensures c.from.ensures }

pub returns-clause-bits : goal.returns-clause-bits
returns-clause-bits c =
    let number = joined_number c.args.width c.args.a c.args.b c.from.result c.raised.result c.requires.whole c.requires.high c.raised.ensures c.from.ensures in
    λ high. ap (bits_of (high + c.args.width)) number ∙ joined_bits high c.args.width c.args.a c.args.b c.requires.low

pub returns-clause-below : goal.returns-clause-below
returns-clause-below c =
    let number = joined_number c.args.width c.args.a c.args.b c.from.result c.raised.result c.requires.whole c.requires.high c.raised.ensures c.from.ensures in
    λ high small. subst (λ n. n < 2 ^ (high + c.args.width)) (sym number) (joined_below high c.args.width c.args.a c.args.b small c.requires.low)
