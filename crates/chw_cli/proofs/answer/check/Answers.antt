use Rattle.std.proofs.Common.{[], Ok, refl, ap, inl}
use Rattle.std.proofs.lemmas.Result.{err_from_is_err_and}
use Rattle.chw_cli.specs.Answer.TextAnswer.{typed}
use Rattle.chw_cli.specs.Reads.{description_in}
use Rattle.chw_cli.specs.Refusals.{RefusesText}
use Rattle.chw_cli.specs.declared.refusal.Refusal.TheVariants.{Memory}
use Rattle.chw_words.specs.declared.command.Command.TheVariants.{Check}
use Rattle.chw_cli.proofs.Reasons.{check_answers, file_refuses, text_answers, text_refuses}
use Rattle.chw_cli.proofs.answer.check.Goals as goal

pub returns-in_err-description-clause-refuses : goal.returns-in_err-description-clause-refuses
returns-in_err-description-clause-refuses g c =
    let p = err_from_is_err_and c.from_residual.result c.from_residual.ensures.1 in
    rw (p.1, p.2)
    (file_refuses g.F.Shelf.fetch_gives g.F.Shelf.told g.F.Shelf.faults c.args.words.now c.args.shelf.now c.read_description.new.shelf (Check c.args.file.now) (description_in c.args.file.now) []
    c.requires refl RefusesText (λ text r w. check_answers c.args.file.now text r w) c.in_err-description.field-0.0 c.in_err-description.ensures.refused)

pub returns-in_err-print-clause-refuses : goal.returns-in_err-print-clause-refuses
returns-in_err-print-clause-refuses g c =
    let p = err_from_is_err_and c.from_residual-in_err-print.result c.from_residual-in_err-print.ensures.1 in
    rw (p.1, p.2)
    (text_refuses g.F.Shelf.fetch_gives g.F.Shelf.told g.F.Shelf.faults c.args.words.now c.args.shelf.now c.read_description.new.shelf (Check c.args.file.now) (description_in c.args.file.now) []
    c.requires refl c.in_ok-description.description.text.items Memory c.in_ok-description.ensures.read (inl refl))

pub returns-clause-answers : goal.returns-clause-answers
returns-clause-answers g c =
    let d = c.in_ok-description.description in
    text_answers g.F.Shelf.fetch_gives g.F.Shelf.told g.F.Shelf.faults c.args.words.now c.args.shelf.now c.read_description.new.shelf (Check c.args.file.now) (description_in c.args.file.now) []
    c.requires refl d.text.items c.in_ok-print.field-0.items c.in_ok-description.ensures.read
    (typed d.text.items d.tree (Ok c.in_ok-print.field-0.items) c.in_ok-description.ensures.typed (ap Ok c.in_ok-print.ensures))
