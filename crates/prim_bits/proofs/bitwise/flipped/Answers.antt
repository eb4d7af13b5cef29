use Rattle.std.proofs.Common.{IfOk, ◌≡◌, Bool, List, not, map, ap, subst, ◌∙◌}
use Rattle.chw_bits.specs.Bits.{bits_of}
use Rattle.prim_bits.proofs.bitwise.flipped.Goals as goal

pub returns : goal.returns
returns c =
    let bits =
    c.flipped.ensures.bits
    ∙ ap (λ w. map not (bits_of w c.number.result)) c.len-width.ensures
    ∙ ap (map not) c.number.ensures.bits in
    subst (λ (wanted : List Bool). IfOk c.word.result (λ r. r ≡ wanted)) bits c.word.ensures
