use Rattle.std.proofs.Common.{IfOk, ◌≡◌, Bool, List, subst}
use Rattle.prim_bits.specs.Words.{integer_of}
use Rattle.chw_bits.proofs.WordResults.{extended_bits}
use Rattle.prim_bits.proofs.reshaping.extended.Goals as goal

pub returns : goal.returns
returns c =
    let bits = extended_bits 128 c.args.width c.residue.result (integer_of c.args.x c.args.a.now) c.requires.whole c.residue.ensures in
    subst (λ (wanted : List Bool). IfOk c.word.result (λ r. r ≡ wanted)) bits c.word.ensures
