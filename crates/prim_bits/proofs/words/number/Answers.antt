use Rattle.std.proofs.Common.{◌^◌, ◌<◌, length, ap, subst, sym, ◌∙◌}
use Rattle.chw_bits.specs.Bits.{bits_of}
use Rattle.chw_bits.proofs.Numbers.{number_of_lt}
use Rattle.chw_bits.proofs.RoundTrips.{bits_of-number_of}
use Rattle.prim_bits.proofs.words.number.Goals as goal

pub returns-clause-below : goal.returns-clause-below
returns-clause-below c = subst (λ n. n < 2 ^ length c.args.word.now) (sym c.in-Some.ensures.1) (number_of_lt c.args.word.now)

pub returns-clause-bits : goal.returns-clause-bits
returns-clause-bits c = ap (bits_of (length c.args.word.now)) c.in-Some.ensures.1 ∙ bits_of-number_of c.args.word.now
