use Rattle.std.proofs.Common.{[], ◌∷◌, refl, sym, subst}
use Rattle.std.proofs.lemmas.Result.{IfErr-weaker, IfOk-weaker, err_from_is_err_and}
use Rattle.chw_cli.specs.Answer.SimulateAnswer.{simulated}
use Rattle.chw_cli.specs.Descriptions.{HasProgram}
use Rattle.chw_cli.specs.Reads.{description_in, stimulus_in}
use Rattle.chw_cli.specs.Refusals.{RefusesSimulation, RefusesText}
use Rattle.chw_terms.specs.Tidy.{IsTidy}
use Rattle.chw_words.specs.declared.command.Command.TheVariants.{Simulate}
use Rattle.chw_cli.proofs.Compiling.{text_compiles}
use Rattle.chw_cli.proofs.Reasons.{compile_answers, file_refuses, second_answers, second_refuses, simulate_answers, simulate_is_text, simulation_answers, text_refuses}
use Rattle.chw_cli.proofs.answer.simulate.Goals as goal

pub read_description-requires : goal.read_description-requires
read_description-requires g c = (simulate_is_text c.args.words.now c.args.file.now c.args.stimulus.now c.args.budget c.args.form c.requires).0

pub simulated-requires : goal.simulated-requires
simulated-requires g c = record {
  file = (simulate_is_text c.args.words.now c.args.file.now c.args.stimulus.now c.args.budget c.args.form c.requires).1;
  tidy = subst IsTidy (sym c.program-program.ensures.program) c.in_ok-description.ensures.program.tidy;
  compiled = (c.args.budget, c.in_ok-made.ensures.compiled);
}

pub returns-in_err-description-clause-refuses : goal.returns-in_err-description-clause-refuses
returns-in_err-description-clause-refuses g c =
    let p = err_from_is_err_and c.from_residual.result c.from_residual.ensures.1 in
    rw (p.1, p.2)
    (file_refuses g.F.Shelf.fetch_gives g.F.Shelf.told g.F.Shelf.faults c.args.words.now c.args.shelf.now c.read_description.new.shelf
    (Simulate c.args.file.now c.args.stimulus.now c.args.budget c.args.form) (description_in c.args.file.now) (stimulus_in c.args.stimulus.now ∷ []) c.requires refl RefusesText
    (λ text r w. simulate_answers c.args.file.now c.args.stimulus.now text c.args.budget c.args.form r w) c.in_err-description.field-0.0 c.in_err-description.ensures.refused)

pub returns-in_err-made-clause-refuses : goal.returns-in_err-made-clause-refuses
returns-in_err-made-clause-refuses g c =
    let p = err_from_is_err_and c.from_residual-in_err-made.result c.from_residual-in_err-made.ensures.1 in
    let d = c.in_ok-description.description in
    let has = subst (HasProgram d.tree) (sym c.program-program.ensures.program) c.in_ok-description.ensures.program in
    rw (p.1, p.2)
    (text_refuses g.F.Shelf.fetch_gives g.F.Shelf.told g.F.Shelf.faults c.args.words.now c.args.shelf.now c.read_description.new.shelf
    (Simulate c.args.file.now c.args.stimulus.now c.args.budget c.args.form) (description_in c.args.file.now) (stimulus_in c.args.stimulus.now ∷ []) c.requires refl d.text.items
    c.in_err-made.field-0.0 c.in_ok-description.ensures.read
    (compile_answers c.args.file.now c.args.stimulus.now d.text.items c.args.budget c.args.form d.tree c.program-program.result.now c.in_err-made.field-0.0
    c.in_ok-description.ensures.typed has c.in_err-made.ensures.refused))

pub returns-clause-answers : goal.returns-clause-answers
returns-clause-answers g c =
    let d = c.in_ok-description.description in
    let p = c.program-program.result.now in
    let can =
    text_compiles d.text.items c.args.budget d.tree d.checked p c.in_ok-made.made.net c.in_ok-made.made.flat c.in_ok-description.ensures.typed
    c.in_ok-description.ensures.program c.program-program.ensures.program c.in_ok-made.ensures.compiled.compiles in
    IfOk-weaker c.simulated.result _ _
    (λ lines r. second_answers g.F.Shelf.fetch_gives g.F.Shelf.told g.F.Shelf.faults c.args.words.now c.args.shelf.now c.simulated.new.shelf
    (Simulate c.args.file.now c.args.stimulus.now c.args.budget c.args.form) (description_in c.args.file.now) (stimulus_in c.args.stimulus.now) c.requires refl d.text.items
    c.read_description.new.shelf c.in_ok-description.ensures.read (p, can) r.0 lines.items r.1
    (simulated d.text.items r.0 lines.items p can r.2))
    c.simulated.ensures.lines

pub returns-clause-refuses : goal.returns-clause-refuses
returns-clause-refuses g c =
    let d = c.in_ok-description.description in
    let p = c.program-program.result.now in
    let can =
    text_compiles d.text.items c.args.budget d.tree d.checked p c.in_ok-made.made.net c.in_ok-made.made.flat c.in_ok-description.ensures.typed
    c.in_ok-description.ensures.program c.program-program.ensures.program c.in_ok-made.ensures.compiled.compiles in
    IfErr-weaker c.simulated.result _ _
    (λ r w. second_refuses g.F.Shelf.fetch_gives g.F.Shelf.told g.F.Shelf.faults c.args.words.now c.args.shelf.now c.simulated.new.shelf
    (Simulate c.args.file.now c.args.stimulus.now c.args.budget c.args.form) (description_in c.args.file.now) (stimulus_in c.args.stimulus.now) c.requires refl d.text.items
    c.read_description.new.shelf c.in_ok-description.ensures.read (p, can) (RefusesSimulation p)
    (λ bytes q v. simulation_answers c.args.file.now c.args.stimulus.now d.text.items c.args.budget c.args.form p can bytes q v) r w)
    c.simulated.ensures.refused
