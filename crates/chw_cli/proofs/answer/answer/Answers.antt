use Rattle.std.proofs.Common.{refl}
use Rattle.std.proofs.lemmas.Result.{err_from_is_err_and}
use Rattle.chw_cli.proofs.Reasons.{words_refuse}
use Rattle.chw_cli.proofs.answer.answer.Goals as goal

pub returns-in_err-file-clause-refuses : goal.returns-in_err-file-clause-refuses
returns-in_err-file-clause-refuses g c =
    let p = err_from_is_err_and c.from_residual.result c.from_residual.ensures.1 in
    rw (p.1, p.2)
    (words_refuse g.F.Shelf.fetch_gives g.F.Shelf.told g.F.Shelf.faults c.args.words.now c.args.shelf.now c.args.shelf.now c.in_err-file.field-0.0 refl c.in_err-file.ensures.fault)
