use Rattle.std.proofs.Common.{◌≡◌, ◌∙◌, sym, ap, Some, None, codes, option_map}
use Rattle.clap.specs.Matches.{found_of}
use Rattle.clap.specs.Walk.{first_of, rows_of}
use Rattle.clap.proofs.WalkLemmas.{first_value-rows}
use Rattle.chw_words.specs.Parsing.{check}
use Rattle.chw_words.proofs.OneCommand.{check_only}
use Rattle.chw_words.proofs.reading.check.Goals as goal

pub returns-in_default-clause-fault : goal.returns-in_default-clause-fault
returns-in_default-clause-fault c =
    let found = found_of c.args.matches.now in
    let none : first_of (codes "file") (rows_of found) ≡ None =
    sym (first_value-rows found (codes "file")) ∙ sym c.get_str.ensures ∙ ap (option_map (λ s. s.now)) c.in_default.is in
    λ command is.
    let only = check_only (rows_of found) command is in
    let bad : None ≡ Some (only.0) = sym none ∙ only.1 in
    cc

pub returns-clause-command : goal.returns-clause-command
returns-clause-command c =
    let found = found_of c.args.matches.now in
    let file = c.in_ok-name.field-0 in
    let named : first_of (codes "file") (rows_of found) ≡ Some file =
    sym (first_value-rows found (codes "file")) ∙ sym c.in-Some.ensures ∙ ap Some (sym c.in_ok-name.ensures) in
    check (rows_of found) file named
