use Rattle.std.proofs.Common.{◌≡◌, sym, subst, IfOk, Some, codes}
use Rattle.clap.specs.Matches.{found_of, subcommand_name_of}
use Rattle.clap.specs.Walk.{rows_of}
use Rattle.chw_words.specs.Parsing.{IsMatched}
use Rattle.chw_words.proofs.Matched.{name_and_rows}
use Rattle.chw_words.proofs.reading.reading.Goals as goal

pub returns-in-normalise-clause-command : goal.returns-in-normalise-clause-command
returns-in-normalise-clause-command c =
    let named : Some (codes "normalise") ≡ subcommand_name_of c.args.matches.now = subst (λ w. Some w ≡ subcommand_name_of c.args.matches.now) c.in-normalise.is c.in-Some.ensures.name in
    let same = name_and_rows c.args.matches.now (codes "normalise") (rows_of (found_of c.in-Some.matches.now)) named c.in-Some.ensures.rows in
    subst (λ o. IfOk c.normalise.result (IsMatched o)) (sym same) c.normalise.ensures.command
