use Rattle.verilog_tree.proofs.Faults.{one_fault}
use Rattle.verilog_tree.proofs.laws.one_syntax_fault.Goals as goal

pub returns : goal.returns
returns c = one_fault
