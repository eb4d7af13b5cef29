use Rattle.chw_typing.proofs.Shown.{two_for_one_constructor, after_a_default, literal_pattern, looking_at_a_function, looking_at_a_circuit, too_few_names}
use Rattle.chw_typing.proofs.examples.of_cases.Goals as goal

pub returns : goal.returns
returns c = record {
  twice = two_for_one_constructor;
  late = after_a_default;
  literal = literal_pattern;
  function = looking_at_a_function;
  circuit = looking_at_a_circuit;
  names = too_few_names;
}
