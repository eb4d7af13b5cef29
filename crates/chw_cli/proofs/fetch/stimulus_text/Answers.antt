use Rattle.std.proofs.lemmas.Option.{MatchOption-at_some}
use Rattle.std.proofs.lemmas.Result.{err_from_is_err_and}
use Rattle.chw_cli.specs.Fetching.RefusesFile.{nothing, too_long}
use Rattle.chw_cli.proofs.Reasons.{without_value}
use Rattle.chw_cli.proofs.fetch.stimulus_text.Goals as goal

pub returns-in_err-text-clause-refused : goal.returns-in_err-text-clause-refused
returns-in_err-text-clause-refused g c =
    let p = err_from_is_err_and c.from_residual.result c.from_residual.ensures.1 in
    rw (p.1, p.2) (nothing c.in_err-text.field-0.0 c.in_err-text.ensures.nothing)

pub returns-in_default-clause-refused : goal.returns-in_default-clause-refused
returns-in_default-clause-refused g c =
    let long = without_value _ _ c.in_ok-text.field-0 c.in_default.not-Some c.in_ok-text.ensures.text in
    too_long long.0 long.1

pub returns-clause-text : goal.returns-clause-text
returns-clause-text g c = MatchOption-at_some _ _ c.in-Some.text c.in-Some.is c.in_ok-text.ensures.text
