use Rattle.std.proofs.Common.{◌+◌, length, map, arith}
use Rattle.std.proofs.lemmas.Result.{err_from_is_err_and}
use Rattle.wave_read.specs.Reading.{words_in}
use Rattle.wave_read.specs.Shown.{shown}
use Rattle.wave_text.specs.Words.{words_of}
use Rattle.wave_read.proofs.Forms.{first_behind, first_fails}
use Rattle.wave_read.proofs.reading.behind_first.Goals as goal

pub returns-in_err-row-clause-fault : goal.returns-in_err-row-clause-fault
returns-in_err-row-clause-fault c =
    let p = err_from_is_err_and c.from_residual.result c.from_residual.ensures.1 in
    rw (p.1, p.2) (first_fails c.args.text.now (0 + length c.args.text.now) c.in_err-row.field-0.0 (omega arith) c.in_err-row.ensures.fault)

pub returns-clause-fails : goal.returns-clause-fails
returns-clause-fails c =
    let row = c.in_ok-row.row in
    first_behind (map shown row.words.items) (words_of c.args.text.now) (words_in row.left) _ c.in_ok-row.ensures.fits c.in_ok-row.ensures.words
