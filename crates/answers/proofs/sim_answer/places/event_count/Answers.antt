use Rattle.std.proofs.Common.{subst}
use Rattle.chw_base.specs.Outcome.{OfFault}
use Rattle.stimulus.specs.Stimulus.{IsStimFault, line_events}
use Rattle.answers.proofs.SimAnswer.Lines.{alone_read}
use Rattle.answers.proofs.sim_answer.places.event_count.Goals as goal

pub unreachable-requires : goal.unreachable-requires
unreachable-requires c =
    let line = c.args.line.now in
    let ports = c.args.ports.now in
    c.no_fault.ensures line ports (line_events ports line) c.in-Err-Fault.field-0-0 (alone_read ports line c.requires)
    (subst (λ r. OfFault r (IsStimFault line ports)) c.in-Err-Fault.field-0-is c.in-Err-Fault.ensures.fault)
