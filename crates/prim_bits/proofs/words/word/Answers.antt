use Rattle.std.proofs.Common.{ap, ◌∙◌, sym}
use Rattle.chw_bits.specs.Bits.{bits_of}
use Rattle.chw_bits.proofs.Residues.{word_of_number}
use Rattle.prim_bits.proofs.words.word.Goals as goal

pub returns-in-Ok : goal.returns-in-Ok
returns-in-Ok c = c.in-Ok.ensures.bits.1 ∙ ap (bits_of c.args.width) c.lowest.ensures.number ∙ sym (word_of_number c.args.width c.args.n)
