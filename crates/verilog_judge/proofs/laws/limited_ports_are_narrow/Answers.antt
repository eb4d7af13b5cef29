use Rattle.verilog_judge.proofs.Given.{last_inputs, last_outputs}
use Rattle.verilog_judge.proofs.laws.limited_ports_are_narrow.Goals as goal

pub returns-clause-inputs : goal.returns-clause-inputs
returns-clause-inputs c = last_inputs

pub returns-clause-outputs : goal.returns-clause-outputs
returns-clause-outputs c = last_outputs
