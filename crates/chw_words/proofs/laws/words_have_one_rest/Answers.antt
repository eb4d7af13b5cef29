use Rattle.std.proofs.Common.{◌∙◌, sym, false}
use Rattle.chw_words.specs.Splitting.{flags_of, found_from, rest_from}
use Rattle.chw_words.proofs.Splitting.{apart_once, are_apart, budget_is_no_flag}
use Rattle.chw_words.proofs.laws.words_have_one_rest.Goals as goal

pub returns-clause-some : goal.returns-clause-some
returns-clause-some c = λ command words.
    (rest_from (flags_of command) false words, found_from (flags_of command) false words, are_apart (flags_of command) words)

pub returns-clause-one : goal.returns-clause-one
returns-clause-one c = λ command words rest others found more h k.
    let no = budget_is_no_flag command in
    let first = apart_once (flags_of command) words rest found no h in
    let second = apart_once (flags_of command) words others more no k in
    (first.0 ∙ sym second.0, first.1 ∙ sym second.1)
