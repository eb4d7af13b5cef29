use Rattle.std.proofs.Common.{refl, sym}
use Rattle.chw_bits.specs.Integers.{residue_of}
use Rattle.chw_bits.proofs.Residues.{word_of_number}
use Rattle.chw_bits.proofs.WordResults.{extended_bits}
use Rattle.chw_bits.proofs.laws.words_of_residues.Goals as goal

pub returns : goal.returns
returns c =
    record {
      number = λ width n. sym (word_of_number width n);
      residue = λ width whole z le. extended_bits whole width (residue_of whole z) z le refl;
    }
