use Rattle.rewriting.proofs.RuleShown.{functions_composed, functions_behind, operand_named, call_closed}
use Rattle.rewriting.proofs.rule_examples.of_new_names.Goals as goal

pub returns : goal.returns
returns c = record { composed = functions_composed; behind = functions_behind; operand = operand_named; call = call_closed }
