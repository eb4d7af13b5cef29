use Rattle.std.proofs.Common.{subst}
use Rattle.std.proofs.lemmas.Result.{err_from_is_err_and}
use Rattle.chw_cli.specs.Fetching.RefusesFile.{wrong}
use Rattle.chw_cli.specs.Reads.{stimulus_in}
use Rattle.chw_cli.specs.Refusals.{RefusesSimulation, of_sim_fault}
use Rattle.chw_cli.proofs.Reasons.{lacking_refuses, sim_refuses}
use Rattle.answers.specs.SimAnswer.Simulation.{IsSimulation}
use Rattle.chw_cli.proofs.simulate.simulated.Goals as goal

pub returns-in_err-text-clause-refused : goal.returns-in_err-text-clause-refused
returns-in_err-text-clause-refused g c =
    let p = err_from_is_err_and c.from_residual.result c.from_residual.ensures.1 in
    rw (p.1, p.2)
    (lacking_refuses g.F.Shelf.fetch_gives g.F.Shelf.told g.F.Shelf.faults (stimulus_in c.args.file.now) (RefusesSimulation c.args.program.now) c.args.shelf.now
    c.stimulus_text.new.shelf c.in_err-text.field-0.0 c.in_err-text.ensures.refused)

pub lines_of-requires : goal.lines_of-requires
lines_of-requires g c =
    let is = c.requires.compiled.1 in
    record { tidy = c.requires.tidy; sound = is.sound; order = is.order; means = is.means }

pub returns-in_err-lines_of-clause-refused : goal.returns-in_err-lines_of-clause-refused
returns-in_err-lines_of-clause-refused g c =
    let p = err_from_is_err_and c.from_residual-in_err-lines_of.result c.from_residual-in_err-lines_of.ensures.1 in
    rw (p.1, p.2)
    (wrong c.in_ok-text.text.items (of_sim_fault c.in_err-lines_of.field-0.0) c.in_ok-text.ensures.text
    (subst (λ t. RefusesSimulation c.args.program.now t (of_sim_fault c.in_err-lines_of.field-0.0)) c.as_slice.ensures.value
    (sim_refuses c.args.program.now c.as_slice.result.now c.in_err-lines_of.field-0.0 c.in_err-lines_of.ensures.fault)))

pub returns-clause-lines : goal.returns-clause-lines
returns-clause-lines g c = (
  c.in_ok-text.text.items,
  c.in_ok-text.ensures.text,
  subst (λ t. IsSimulation c.args.program.now c.args.form t c.in_ok-lines_of.field-0.items) c.as_slice.ensures.value c.in_ok-lines_of.ensures.lines,
)
