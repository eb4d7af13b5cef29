use Rattle.std.proofs.Common.{◌≡◌, ◌∙◌, sym, ap, subst, Some, None, codes, option_map}
use Rattle.std.proofs.lemmas.Option.{same_Some}
use Rattle.clap.specs.Matches.{found_of}
use Rattle.clap.specs.Walk.{first_of, rows_of}
use Rattle.clap.proofs.WalkLemmas.{first_value-rows}
use Rattle.chw_words.specs.Commands.{IsTaps}
use Rattle.chw_words.specs.Parsing.{make}
use Rattle.chw_words.proofs.OneCommand.{make_only}
use Rattle.chw_words.proofs.reading.make.Goals as goal

pub returns-in_default-clause-fault : goal.returns-in_default-clause-fault
returns-in_default-clause-fault c =
    let found = found_of c.args.matches.now in
    let none : first_of (codes "taps") (rows_of found) ≡ None =
    sym (first_value-rows found (codes "taps")) ∙ sym c.get_str.ensures ∙ ap (option_map (λ s. s.now)) c.in_default.is in
    λ command is.
    let h = (make_only (rows_of found) command is).1 in
    let bad : None ≡ Some h.word = sym none ∙ h.is_word in
    cc

pub returns-in_default-read_taps-clause-fault : goal.returns-in_default-read_taps-clause-fault
returns-in_default-read_taps-clause-fault c =
    let found = found_of c.args.matches.now in
    let word : first_of (codes "taps") (rows_of found) ≡ Some c.in-Some.word.now = sym (first_value-rows found (codes "taps")) ∙ sym c.in-Some.ensures in
    λ command is.
    let only = make_only (rows_of found) command is in
    let h = only.1 in
    let same : h.word ≡ c.in-Some.word.now = same_Some _ _ (sym h.is_word ∙ word) in
    c.in_default-read_taps.ensures (only.0) (subst (λ w. IsTaps w (only.0)) same h.are_taps)

pub returns-clause-command : goal.returns-clause-command
returns-clause-command c =
    let found = found_of c.args.matches.now in
    let word : first_of (codes "taps") (rows_of found) ≡ Some c.in-Some.word.now = sym (first_value-rows found (codes "taps")) ∙ sym c.in-Some.ensures in
    make (rows_of found) c.in-Some-read_taps.taps (record { word = c.in-Some.word.now; is_word = word; are_taps = c.in-Some-read_taps.ensures })
