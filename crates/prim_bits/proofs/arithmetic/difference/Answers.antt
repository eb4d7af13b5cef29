use Rattle.std.proofs.Common.{IfOk, ◌≡◌, Bool, List, ap, subst, ◌∙◌}
use lib.IntN.{pos, ◌-ℤ◌}
use Rattle.chw_bits.specs.Bits.{number_of, bits_of}
use Rattle.chw_bits.specs.Integers.{word_of}
use Rattle.chw_bits.proofs.WordResults.{extended_bits, word_of_difference}
use Rattle.prim_bits.specs.Words.{integer_of}
use Rattle.prim_bits.proofs.arithmetic.difference.Goals as goal

pub returns : goal.returns
returns c =
    let w = c.args.width in
    let y = integer_of c.args.x c.args.a.now in
    let z = integer_of c.args.x c.args.b.now in
    let left = extended_bits 128 w c.residue.result y c.requires.whole c.residue.ensures in
    let right = extended_bits 128 w c.residue-2.result z c.requires.whole c.residue-2.ensures in
    let bits =
    c.difference.ensures.bits
    ∙ ap (λ (bits : List Bool). word_of w (pos (number_of bits) -ℤ pos (number_of (bits_of w c.residue-2.result)))) left
    ∙ ap (λ (bits : List Bool). word_of w (pos (number_of (word_of w y)) -ℤ pos (number_of bits))) right
    ∙ word_of_difference w y z in
    subst (λ (wanted : List Bool). IfOk c.word.result (λ r. r ≡ wanted)) bits c.word.ensures
