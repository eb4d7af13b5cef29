use Rattle.verilog_rules.proofs.WasDenoted.{not_both}
use Rattle.verilog_rules.proofs.laws.no_text_is_both.Goals as goal

pub returns : goal.returns
returns c = not_both c.one_splitting.ensures c.one_source.ensures c.trees_are_sources.ensures c.split_texts_have_no_such_place.ensures
