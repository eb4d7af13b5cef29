use Rattle.chw_cli.proofs.MakeRefusals.{BreaksNothing, make_is_refused, one_of_two_statuses, words_are_refused}
use Rattle.chw_cli.proofs.laws.make_is_refused_for_its_program.Goals as goal

pub returns-clause-answer : goal.returns-clause-answer
returns-clause-answer c =
    let right : BreaksNothing = record {
      known = c.made_names_are_known.ensures;
      typed = c.made_programs_are_typed.ensures;
      no_name_fault = c.well_named_has_no_fault.ensures;
      no_type_fault = c.typed_has_no_fault.ensures;
    } in
    make_is_refused c.one_splitting.ensures c.no_fault.ensures c.one_tree.ensures c.made_texts_are_descriptions.ensures c.made_texts_have_the_tree.ensures
    right c.made_programs_take_words.ensures c.made_stimuli.ensures.values c.refusals.ensures.stimulus

pub returns-clause-words : goal.returns-clause-words
returns-clause-words c =
    let right : BreaksNothing = record {
      known = c.made_names_are_known.ensures;
      typed = c.made_programs_are_typed.ensures;
      no_name_fault = c.well_named_has_no_fault.ensures;
      no_type_fault = c.typed_has_no_fault.ensures;
    } in
    words_are_refused c.one_splitting.ensures c.no_fault.ensures c.one_tree.ensures c.made_texts_are_descriptions.ensures
    c.made_texts_have_the_tree.ensures right c.made_programs_take_words.ensures c.made_stimuli.ensures.values c.refusals.ensures.stimulus
    c.words_are_one_command.ensures

pub returns-clause-statuses : goal.returns-clause-statuses
returns-clause-statuses c = one_of_two_statuses
