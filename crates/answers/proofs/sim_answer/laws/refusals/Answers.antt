use Rattle.answers.proofs.SimAnswer.Refusals.{nothing_refuses, one_fault}
use Rattle.answers.proofs.sim_answer.laws.refusals.Goals as goal

pub returns-clause-stimulus : goal.returns-clause-stimulus
returns-clause-stimulus c = nothing_refuses c.at_most_one_meaning.ensures.ports c.no_fault.ensures

pub returns-clause-one : goal.returns-clause-one
returns-clause-one c = one_fault c.at_most_one_meaning.ensures.ports c.no_fault.ensures c.one_fault.ensures
