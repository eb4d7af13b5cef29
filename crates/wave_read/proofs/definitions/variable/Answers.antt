use Rattle.std.proofs.Common.{List, map, subst}
use Rattle.std.proofs.lemmas.Result.{err_from_is_err_and}
use Rattle.wave_read.specs.Reading.{Declares, end_of, words_in}
use Rattle.wave_read.specs.Shown.{shown, variable_of}
use Rattle.wave_read.specs.declared.words.Word.{Word as ReadWord}
use Rattle.wave_read.proofs.Defining.{variable_definition, variable_row_fails}
use Rattle.wave_read.proofs.definitions.variable.Goals as goal

pub returns-in_err-row-clause-fault : goal.returns-in_err-row-clause-fault
returns-in_err-row-clause-fault c =
    let p = err_from_is_err_and c.from_residual.result c.from_residual.ensures.1 in
    let left = c.args.left in
    rw (p.1, p.2) (variable_row_fails (end_of left) (words_in left) c.in_err-row.field-0.0 c.in_err-row.ensures.fault)

pub returns-clause-definition : goal.returns-clause-definition
returns-clause-definition c = λ w is.
    let row = c.in_ok-row.row in
    let declares = subst (λ (ws : List ReadWord). Declares (map shown ws) (variable_of c.declared_of.result)) c.as_slice.ensures.value c.declared_of.ensures in
    variable_definition w (map shown row.words.items) (words_in c.args.left) c.declared_of.result row.left (end_of c.args.left) is c.in_ok-row.ensures.fits declares c.in_ok-row.ensures.words
