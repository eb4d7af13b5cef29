use Rattle.verilog_rules.proofs.WasDenoted.{denoted_text}
use Rattle.verilog_rules.proofs.laws.denoted_texts_are_checked.Goals as goal

pub returns : goal.returns
returns c = denoted_text c.one_splitting.ensures c.one_source.ensures c.trees_are_sources.ensures
