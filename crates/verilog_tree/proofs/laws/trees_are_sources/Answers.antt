use Rattle.verilog_tree.proofs.Said.{tree_is_source}
use Rattle.verilog_tree.proofs.laws.trees_are_sources.Goals as goal

pub returns : goal.returns
returns c = tree_is_source
