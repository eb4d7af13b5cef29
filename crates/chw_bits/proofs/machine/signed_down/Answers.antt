use Rattle.std.proofs.Common.{◌%◌, ◌^◌, ap, ◌∙◌}
use lib.IntN.{pos}
use mir.Syntax.{w128}
use mir.Val.{of_z, SFits}
use Rattle.std.proofs.Math.Nat.{mod-mod}
use Rattle.std.proofs.lemmas.Int.{to_z-of_z}
use Rattle.std.specs.Int.{int_div_euclid}
use Rattle.chw_bits.specs.Bits.{bits_of}
use Rattle.chw_bits.specs.Integers.{word_of}
use Rattle.chw_bits.proofs.Residues.{same_low_bits}
use Rattle.chw_bits.proofs.WordResults.{cast_bits}
use Rattle.chw_bits.proofs.machine.signed_down.Goals as goal

pub returns-clause-bits : goal.returns-clause-bits
returns-clause-bits c =
    let w = c.args.width in
    let n = c.cast_unsigned.result in
    let whole : SFits w128 c.signed_number.result = record { sfits = c.signed_number.type_inv } in
    let part : SFits w128 c.signed_quotient-quotient.result = record { sfits = c.signed_quotient-quotient.type_inv } in
    ap (bits_of w) c.lowest.ensures.number
    ∙ same_low_bits w (n % 2 ^ w) n (mod-mod n (2 ^ w))
    ∙ ap (bits_of w) (c.cast_unsigned.ensures ∙ ap (of_z w128) (to_z-of_z w128 c.signed_quotient-quotient.result part))
    ∙ cast_bits w c.signed_quotient-quotient.result c.requires.whole part
    ∙ ap (word_of w) (c.signed_quotient-quotient.ensures ∙ ap (λ z. int_div_euclid z (pos (2 ^ c.args.places))) (to_z-of_z w128 c.signed_number.result whole ∙ c.signed_number.ensures))
