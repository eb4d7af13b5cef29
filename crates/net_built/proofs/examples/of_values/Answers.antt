use Rattle.net_built.proofs.Shown.{constructor_built, case_on_data, case_on_words, case_on_nothing, choice_of_nothing}
use Rattle.net_built.proofs.examples.of_values.Goals as goal

pub returns : goal.returns
returns c = record {
  constructor = constructor_built;
  tag = case_on_data;
  words = case_on_words;
  nothing = case_on_nothing;
  choice = choice_of_nothing;
}
