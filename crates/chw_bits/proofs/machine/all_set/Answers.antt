use Rattle.std.proofs.Common.{◌≡◌, ◌-◌, ◌^◌, eqb, ap, ◌∙◌, arith}
use Rattle.std.proofs.lemmas.Nat.{pow_pos}
use Rattle.chw_bits.proofs.Signs.{complement_low}
use Rattle.chw_bits.proofs.WordBits.{all_bits_of}
use Rattle.chw_bits.proofs.machine.all_set.Goals as goal

pub returns : goal.returns
returns c =
    let w = c.args.width in
    let ones : 2 ^ w - 1 - 0 ≡ 2 ^ w - 1 = omega arith in
    ap (eqb c.args.a) (c.lowest.ensures.number ∙ complement_low w 128 0 c.requires.whole (pow_pos w) ∙ ones) ∙ all_bits_of w c.args.a c.requires.word
