use Rattle.std.proofs.Common.{map}
use Rattle.std.proofs.lemmas.Result.{err_from_is_err_and}
use Rattle.wave_read.specs.Reading.{end_of, words_in}
use Rattle.wave_read.specs.Shown.{shown}
use Rattle.wave_read.proofs.Defining.{last_definition, last_row_fails}
use Rattle.wave_read.proofs.definitions.last.Goals as goal

pub returns-in_err-row-clause-fault : goal.returns-in_err-row-clause-fault
returns-in_err-row-clause-fault c =
    let p = err_from_is_err_and c.from_residual.result c.from_residual.ensures.1 in
    let left = c.args.left in
    rw (p.1, p.2) (last_row_fails (end_of left) (words_in left) c.in_err-row.field-0.0 c.in_err-row.ensures.fault)

pub returns-clause-definition : goal.returns-clause-definition
returns-clause-definition c = λ w is.
    let row = c.in_ok-row.row in
    last_definition w (map shown row.words.items) (words_in c.args.left) row.left (end_of c.args.left) is c.in_ok-row.ensures.fits c.in_ok-row.ensures.words
