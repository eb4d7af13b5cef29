use Rattle.std.proofs.Common.{◌≡◌, ◌∙◌, sym, ap, Some, None, codes, option_map}
use Rattle.clap.specs.Matches.{found_of}
use Rattle.clap.specs.Walk.{first_of, rows_of}
use Rattle.clap.proofs.WalkLemmas.{first_value-rows}
use Rattle.chw_words.specs.Parsing.{simulate}
use Rattle.chw_words.proofs.OneCommand.{simulate_only}
use Rattle.chw_words.proofs.reading.simulate.Goals as goal

pub returns-in_default-clause-fault : goal.returns-in_default-clause-fault
returns-in_default-clause-fault c =
    let found = found_of c.args.matches.now in
    let none : first_of (codes "stimulus") (rows_of found) ≡ None =
    sym (first_value-rows found (codes "stimulus")) ∙ sym c.get_str.ensures ∙ ap (option_map (λ s. s.now)) c.in_default.is in
    λ command is.
    let only = simulate_only (rows_of found) command is in
    let bad : None ≡ Some (only.1) = sym none ∙ only.4 in
    cc

pub returns-clause-command : goal.returns-clause-command
returns-clause-command c =
    let found = found_of c.args.matches.now in
    let stimulus = c.in_ok-name.field-0 in
    let named : first_of (codes "stimulus") (rows_of found) ≡ Some stimulus =
    sym (first_value-rows found (codes "stimulus")) ∙ sym c.in-Some.ensures ∙ ap Some (sym c.in_ok-name.ensures) in
    simulate (rows_of found) _ stimulus _ c.in_ok-file.ensures.budgeted named
