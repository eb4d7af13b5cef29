use Rattle.rewriting.proofs.SceneShown.{unnamed_parameter, bool_in_values, no_bool_in_circuits, signal_in_circuits, no_signal_in_values}
use Rattle.rewriting.proofs.scene_examples.of_names.Goals as goal

pub returns : goal.returns
returns c = record {
  parameter = unnamed_parameter;
  bool_named = bool_in_values;
  bool_unnamed = no_bool_in_circuits;
  signal_named = signal_in_circuits;
  signal_unnamed = no_signal_in_values;
}
