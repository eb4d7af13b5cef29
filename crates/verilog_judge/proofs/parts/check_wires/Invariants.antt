-- the checks of the wires that are left are still to be taken
use Rattle.std.proofs.Common.{◌≡◌, drop}
use Rattle.std.specs.List.{flat_map}
use Rattle.verilog_checks.specs.Least.{least_after}
use Rattle.verilog_rules.specs.WidthRules.{wire_checks}
use Rattle.verilog_judge.proofs.parts.check_wires.Given as goal

abbrev pub invariant-loop-wire : goal.invariant-loop-wire
invariant-loop-wire l = least_after l.least (flat_map wire_checks (drop l.wire-index l.wires)) ≡ least_after l.initial.least (flat_map wire_checks l.wires)
