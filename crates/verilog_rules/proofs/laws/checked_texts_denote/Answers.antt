use Rattle.verilog_rules.proofs.WholeText.{checked_text}
use Rattle.verilog_rules.proofs.laws.checked_texts_denote.Goals as goal

pub returns : goal.returns
returns c = checked_text c.trees_are_sources.ensures
