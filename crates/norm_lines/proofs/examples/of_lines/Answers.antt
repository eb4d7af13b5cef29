use Rattle.norm_lines.proofs.Printed.{run_printed, deep_step_printed, root_step_printed}
use Rattle.norm_lines.proofs.Printed.{applied_printed}
use Rattle.norm_lines.proofs.examples.of_lines.Goals as goal

pub returns : goal.returns
returns c = record {
  run = run_printed;
  deep = deep_step_printed;
  root = root_step_printed;
  applied = applied_printed;
}
