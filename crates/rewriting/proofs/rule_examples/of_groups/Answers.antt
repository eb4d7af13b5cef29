use Rattle.rewriting.proofs.RuleShown.{let_joins, binding_goes, function_is_put}
use Rattle.rewriting.proofs.rule_examples.of_groups.Goals as goal

pub returns : goal.returns
returns c = record { joined = let_joins; left_out = binding_goes; put = function_is_put }
