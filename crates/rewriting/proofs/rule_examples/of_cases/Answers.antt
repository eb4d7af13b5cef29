use Rattle.rewriting.proofs.RuleShown.{constructor_taken, case_moves_out, parts_projected}
use Rattle.rewriting.proofs.rule_examples.of_cases.Goals as goal

pub returns : goal.returns
returns c = record { taken = constructor_taken; moved = case_moves_out; parts = parts_projected }
