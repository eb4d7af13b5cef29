use Rattle.std.proofs.Common.{◌<◌, ◌^◌, length, set, sym, ap, subst, ◌∙◌, arith}
use Rattle.chw_bits.specs.Bits.{bits_of}
use Rattle.net_sim.proofs.small_step.move_small.Goals as goal

pub small-n-requires : goal.small-n-requires
small-n-requires c =
    let same = ap length c.word_at.ensures in
    let width = c.requires.width in
    let few = c.requires.small in
    omega arith

pub put_small_at-requires-clause-below : goal.put_small_at-requires-clause-below
put_small_at-requires-clause-below c =
    subst (λ k. c.small-n.result < 2 ^ k) (ap length c.word_at.ensures ∙ sym c.requires.width) c.small-n.ensures.below

pub returns-clause-word : goal.returns-clause-word
returns-clause-word c =
    c.put_small_at.ensures.word
    ∙ ap (set c.args.words.now c.args.to.number)
    (ap (λ k. bits_of k c.small-n.result) (c.requires.width ∙ sym (ap length c.word_at.ensures)) ∙ sym c.small-n.ensures.bits ∙ c.word_at.ensures)
