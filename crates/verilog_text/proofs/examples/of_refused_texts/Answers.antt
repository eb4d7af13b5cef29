use Rattle.verilog_text.proofs.ExamplesShown.{assigned_register_refused, narrow_output_refused, range_to_one_refused, unknown_name_refused}
use Rattle.verilog_text.proofs.examples.of_refused_texts.Goals as goal

pub returns : goal.returns
returns c = record {
  unknown = unknown_name_refused;
  register = assigned_register_refused;
  narrow = narrow_output_refused;
  range = range_to_one_refused;
}
