use Rattle.std.proofs.Common.{subst}
use Rattle.chw_base.specs.Outcome.{OfFault}
use Rattle.stimulus.specs.Stimulus.{IsStimFault}
use Rattle.answers.specs.SimAnswer.Simulation.{not_stimulus}
use Rattle.answers.proofs.sim_answer.simulating.read_events.Goals as goal

pub returns-in-Err-Fault-clause-fault : goal.returns-in-Err-Fault-clause-fault
returns-in-Err-Fault-clause-fault c =
    not_stimulus c.args.ports.now c.in-Err-Fault.fault c.requires
    (subst (λ r. OfFault r (IsStimFault c.args.text.now c.args.ports.now)) c.in-Err-Fault.field-0-is c.in-Err-Fault.ensures.fault)
