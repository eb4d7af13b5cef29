use Rattle.std.proofs.Common.{◌^◌, ◌<◌, ap, subst, sym, ◌∙◌}
use mir.Syntax.{w128}
use Rattle.std.proofs.lemmas.Int.{to_z-of_z}
use Rattle.chw_bits.specs.Bits.{bits_of}
use Rattle.chw_bits.specs.Integers.{signed}
use Rattle.prim_bits.proofs.words.signed_number.Goals as goal

pub signed_number-requires-clause-word : goal.signed_number-requires-clause-word
signed_number-requires-clause-word c = subst (λ w. c.number.result < 2 ^ w) (sym c.len.ensures) c.number.ensures.below

pub returns : goal.returns
returns c =
    to_z-of_z w128 c.signed_number.result (record { sfits = c.signed_number.type_inv })
    ∙ c.signed_number.ensures
    ∙ ap (λ w. signed (bits_of w c.number.result)) c.len.ensures
    ∙ ap signed c.number.ensures.bits
