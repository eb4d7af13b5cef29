use Rattle.rewriting.proofs.SceneShown.{typed_value, typed_circuit, no_leading_lambda, holds_one}
use Rattle.rewriting.proofs.scene_examples.of_made_definitions.Goals as goal

pub returns : goal.returns
returns c = record { value = typed_value; circuit = typed_circuit; lambda = no_leading_lambda; made = holds_one }
