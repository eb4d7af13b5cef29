use Rattle.verilog_tree.specs.Sources.{source_of}
use Rattle.verilog_tree.proofs.Faults.{no_fault}
use Rattle.verilog_tree.proofs.Said.{tree_is_source}
use Rattle.verilog_tree.proofs.laws.no_tree_has_a_syntax_fault.Goals as goal

pub returns : goal.returns
returns c = λ length tokens tree at is fault. no_fault length tokens (source_of tree) at (tree_is_source tokens tree is) fault
