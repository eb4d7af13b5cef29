use Rattle.std.proofs.Common.{◌≡◌, ◌∙◌, sym, ap, Some, None, codes, option_map}
use Rattle.clap.specs.Matches.{found_of}
use Rattle.clap.specs.Walk.{first_of, rows_of}
use Rattle.clap.proofs.WalkLemmas.{first_value-rows}
use Rattle.chw_words.specs.Parsing.{run}
use Rattle.chw_words.proofs.OneCommand.{run_only}
use Rattle.chw_words.proofs.reading.run.Goals as goal

pub returns-in_default-clause-fault : goal.returns-in_default-clause-fault
returns-in_default-clause-fault c =
    let found = found_of c.args.matches.now in
    let none : first_of (codes "verilog") (rows_of found) ≡ None =
    sym (first_value-rows found (codes "verilog")) ∙ sym c.get_str.ensures ∙ ap (option_map (λ s. s.now)) c.in_default.is in
    λ command is.
    let only = run_only (rows_of found) command is in
    let bad : None ≡ Some (only.0) = sym none ∙ only.2 in
    cc

pub returns-in_default-get_str-clause-fault : goal.returns-in_default-get_str-clause-fault
returns-in_default-get_str-clause-fault c =
    let found = found_of c.args.matches.now in
    let none : first_of (codes "stimulus") (rows_of found) ≡ None =
    sym (first_value-rows found (codes "stimulus")) ∙ sym c.get_str-2.ensures ∙ ap (option_map (λ s. s.now)) c.in_default-get_str.is in
    λ command is.
    let only = run_only (rows_of found) command is in
    let bad : None ≡ Some (only.1) = sym none ∙ only.3 in
    cc

pub returns-clause-command : goal.returns-clause-command
returns-clause-command c =
    let found = found_of c.args.matches.now in
    let f = c.in_ok-name.field-0 in
    let g = c.in_ok-name-2.field-0 in
    let first : first_of (codes "verilog") (rows_of found) ≡ Some f =
    sym (first_value-rows found (codes "verilog")) ∙ sym c.in-Some.ensures ∙ ap Some (sym c.in_ok-name.ensures) in
    let second : first_of (codes "stimulus") (rows_of found) ≡ Some g =
    sym (first_value-rows found (codes "stimulus")) ∙ sym c.in-Some-get_str.ensures ∙ ap Some (sym c.in_ok-name-2.ensures) in
    run (rows_of found) f g first second
