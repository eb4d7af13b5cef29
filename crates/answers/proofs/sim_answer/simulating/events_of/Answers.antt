use Rattle.std.proofs.Common.{subst}
use Rattle.answers.specs.SimAnswer.Simulation.{IsStimulus}
use Rattle.answers.proofs.sim_answer.simulating.events_of.Goals as goal

pub returns-clause-events : goal.returns-clause-events
returns-clause-events c =
    subst (IsStimulus c.args.program.now c.args.text.now c.args.ports.now) c.as_slice.ensures c.in_ok-check_values.ensures.stimulus
