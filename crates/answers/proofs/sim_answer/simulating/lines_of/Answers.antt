use Rattle.std.proofs.Common.{sym, subst}
use Rattle.std.specs.List.{AllByRecursion}
use Rattle.chw_clock.specs.Histories.{FitsEvent}
use Rattle.answers.specs.SimAnswer.Types.{ShowsRun}
use Rattle.answers.proofs.SimAnswer.Histories.{stimulus_fits}
use Rattle.answers.proofs.SimAnswer.Meant.{simulated}
use Rattle.answers.proofs.sim_answer.simulating.lines_of.Goals as goal

pub run_in-requires-clause-fit : goal.run_in-requires-clause-fit
run_in-requires-clause-fit c =
    let ports = c.args.flat.now.ports in
    subst (AllByRecursion (FitsEvent ports)) (sym c.as_slice.ensures)
    (stimulus_fits c.args.text.now ports c.in_ok-events.events c.in_ok-events.ensures.events.read)

pub returns-clause-lines : goal.returns-clause-lines
returns-clause-lines c =
    let p = c.args.program.now in
    let flat = c.args.flat.now in
    let events = c.in_ok-events.events in
    simulated c.a_wire_has_one_value.ensures c.zero_exists.ensures.of_width p flat c.requires.sound c.requires.means c.requires.tidy c.args.form c.args.text.now events
    c.in_ok-run_in.field-0.items c.in_ok-events.ensures.events
    (subst (λ es. ShowsRun c.args.form flat es c.in_ok-run_in.field-0.items) c.as_slice.ensures c.in_ok-run_in.ensures)
