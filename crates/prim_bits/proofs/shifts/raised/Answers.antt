use Rattle.std.proofs.Common.{IfOk, ◌≡◌, ◌^◌, Bool, List, subst, ap, ◌∙◌}
use lib.IntN.{pos, ◌*ℤ◌}
use Rattle.chw_bits.specs.Bits.{number_of}
use Rattle.chw_bits.specs.Integers.{word_of}
use Rattle.chw_bits.proofs.WordResults.{extended_bits, word_of_multiple}
use Rattle.prim_bits.specs.Words.{integer_of}
use Rattle.prim_bits.proofs.shifts.raised.Goals as goal

pub returns : goal.returns
returns c =
    let w = c.args.width in
    let z = integer_of c.args.x c.args.a.now in
    let bits =
    c.up.ensures.bits
    ∙ ap (λ (bits : List Bool). word_of w (pos (number_of bits) *ℤ pos (2 ^ c.number.result))) (extended_bits 128 w c.residue.result z c.requires.whole c.residue.ensures)
    ∙ word_of_multiple w z (pos (2 ^ c.number.result))
    ∙ ap (λ k. word_of w (z *ℤ pos (2 ^ k))) c.number.ensures.value in
    subst (λ (wanted : List Bool). IfOk c.word.result (λ r. r ≡ wanted)) bits c.word.ensures
