use Rattle.std.proofs.Common.{[], Ok, refl}
use Rattle.std.proofs.lemmas.Result.{IfErr-weaker, IfOk-weaker, err_from_is_err_and}
use Rattle.chw_cli.specs.Answer.{EmitAnswer}
use Rattle.chw_cli.specs.Answer.TextAnswer.{typed}
use Rattle.chw_cli.specs.Reads.{description_in}
use Rattle.chw_cli.specs.Refusals.{RefusesEmit, RefusesText}
use Rattle.chw_words.specs.declared.command.Command.TheVariants.{Emit}
use Rattle.chw_cli.proofs.Reasons.{emit_answers, emit_refuses, file_refuses, text_answers, text_refuses}
use Rattle.chw_cli.proofs.answer.emit.Goals as goal

pub returns-in_err-description-clause-refuses : goal.returns-in_err-description-clause-refuses
returns-in_err-description-clause-refuses g c =
    let p = err_from_is_err_and c.from_residual.result c.from_residual.ensures.1 in
    rw (p.1, p.2)
    (file_refuses g.F.Shelf.fetch_gives g.F.Shelf.told g.F.Shelf.faults c.args.words.now c.args.shelf.now c.read_description.new.shelf (Emit c.args.file.now c.args.budget c.args.form)
    (description_in c.args.file.now) [] c.requires refl RefusesText (λ text r w. emit_answers c.args.file.now text c.args.budget c.args.form r w) c.in_err-description.field-0.0
    c.in_err-description.ensures.refused)

pub returns-clause-answers : goal.returns-clause-answers
returns-clause-answers g c =
    let d = c.in_ok-description.description in
    IfOk-weaker c.emitted.result (λ bytes. EmitAnswer d.tree c.args.budget c.args.form (Ok bytes.items)) _
    (λ bytes a. text_answers g.F.Shelf.fetch_gives g.F.Shelf.told g.F.Shelf.faults c.args.words.now c.args.shelf.now c.read_description.new.shelf (Emit c.args.file.now c.args.budget c.args.form)
    (description_in c.args.file.now) [] c.requires refl d.text.items bytes.items c.in_ok-description.ensures.read
    (typed d.text.items d.tree (Ok bytes.items) c.in_ok-description.ensures.typed a))
    c.emitted.ensures.emitted

pub returns-clause-refuses : goal.returns-clause-refuses
returns-clause-refuses g c =
    let d = c.in_ok-description.description in
    IfErr-weaker c.emitted.result (RefusesEmit d.tree c.args.budget c.args.form) _
    (λ r e. text_refuses g.F.Shelf.fetch_gives g.F.Shelf.told g.F.Shelf.faults c.args.words.now c.args.shelf.now c.read_description.new.shelf (Emit c.args.file.now c.args.budget c.args.form)
    (description_in c.args.file.now) [] c.requires refl d.text.items r c.in_ok-description.ensures.read
    (emit_refuses c.args.file.now d.text.items c.args.budget c.args.form d.tree r c.in_ok-description.ensures.typed e))
    c.emitted.ensures.refused
