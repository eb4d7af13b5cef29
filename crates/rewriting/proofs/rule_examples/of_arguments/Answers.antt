use Rattle.rewriting.proofs.RuleShown.{argument_moves, let_leaves_vector, sum_computed, truth_computed}
use Rattle.rewriting.proofs.rule_examples.of_arguments.Goals as goal

pub returns : goal.returns
returns c = record { moved = argument_moves; left = let_leaves_vector; sum = sum_computed; truth = truth_computed }
