-- those that are left are still to be added
use Rattle.std.proofs.Common.{◌≡◌, ◌++◌, drop, map}
use Rattle.verilog_rules.specs.Declarations.{line_name}
use Rattle.verilog_names.proofs.modules.output_names.Given as goal

abbrev pub invariant-loop-line : goal.invariant-loop-line
invariant-loop-line l =
    l.places ++ map line_name (drop l.line-index l.outputs) ≡ map line_name l.outputs
