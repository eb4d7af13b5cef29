use Rattle.std.proofs.Common.{sym, subst}
use Rattle.verilog_checks.specs.Narrow.{AreNarrow}
use Rattle.verilog_judge.proofs.module_widths.check_output.Goals as goal

pub output_width-n-requires : goal.output_width-n-requires
output_width-n-requires c = subst AreNarrow (sym c.as_slice.ensures) c.requires
