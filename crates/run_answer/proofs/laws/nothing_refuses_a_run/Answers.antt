use Rattle.run_answer.proofs.Runs.{no_circuit_fault, no_stimulus_fault}
use Rattle.run_answer.proofs.laws.nothing_refuses_a_run.Goals as goal

pub returns-clause-text : goal.returns-clause-text
returns-clause-text c = no_circuit_fault c.one_net.ensures c.one_flat_net.ensures c.no_text_is_both.ensures

pub returns-clause-stimulus : goal.returns-clause-stimulus
returns-clause-stimulus c = no_stimulus_fault c.one_net.ensures c.one_flat_net.ensures c.no_fault.ensures
