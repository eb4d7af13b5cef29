use Rattle.verilog_lex.proofs.Whole.{each_text_reads}
use Rattle.verilog_lex.proofs.laws.each_text_splits_or_has_such_a_place.Goals as goal

pub returns : goal.returns
returns c = each_text_reads
