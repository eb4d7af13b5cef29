use Rattle.std.proofs.Common.{IfOk, ◌≡◌, ◌^◌, Bool, List, subst, ap, ◌∙◌}
use lib.IntN.{pos}
use Rattle.std.specs.Int.{int_div_euclid}
use Rattle.chw_bits.specs.Integers.{word_of}
use Rattle.prim_bits.specs.Words.{integer_of}
use Rattle.chw_bits.proofs.WordResults.{extended_bits}
use Rattle.prim_bits.proofs.shifts.lowered.Goals as goal

pub returns : goal.returns
returns c =
    let z = integer_of c.args.x c.args.a.now in
    let bits =
    extended_bits 128 c.args.width c.quotient.result (int_div_euclid z (pos (2 ^ c.number.result))) c.requires.whole c.quotient.ensures
    ∙ ap (λ k. word_of c.args.width (int_div_euclid z (pos (2 ^ k)))) c.number.ensures.value in
    subst (λ (wanted : List Bool). IfOk c.word.result (λ r. r ≡ wanted)) bits c.word.ensures
