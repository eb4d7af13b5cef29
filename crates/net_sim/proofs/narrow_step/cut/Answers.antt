use Rattle.std.proofs.Common.{◌<◌, ◌+◌, ◌-◌, length, sym, ap, subst, ◌∙◌, arith}
use Rattle.chw_bits.specs.Bits.{cut_of}
use Rattle.chw_bits.proofs.RoundTrips.{length-cut_of}
use Rattle.net_sim.proofs.Keeping.{number_from_bits}
use Rattle.net_sim.proofs.narrow_step.cut.Goals as goal
use Rattle.net_sim.specs.Tables.{value_in}

pub returns-clause-number : goal.returns-clause-number
returns-clause-number c =
    let high = c.args.high in
    let low = c.args.low in
    let word = c.word_at-word.result.now in
    let within = subst (λ bits. high < length bits) (sym c.word_at-word.ensures) c.requires.within in
    let bits = value_in c.args.words.now c.args.w.number in
    let count = length-cut_of bits high low c.requires.order c.requires.within in
    record {
      number =
          number_from_bits (high + 1 - low) c.middle.result (cut_of high low bits)
          (c.middle.ensures.bits (length word) within ∙ ap (cut_of high low) (sym c.number.ensures.bits ∙ c.word_at-word.ensures))
          c.middle.ensures.below;
      narrow = let same = ap length c.word_at-word.ensures in omega arith;
    }
