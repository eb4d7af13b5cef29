use Rattle.blif_text.proofs.PrintedRead.{printed_bits_are_read as shown}
use Rattle.blif_text.proofs.laws.printed_bits_are_read.Goals as goal

pub returns : goal.returns
returns c = shown
