-- what is left is still to be added, and to be checked
use Rattle.std.proofs.Common.{◌≡◌, ◌++◌, drop, map}
use Rattle.verilog_checks.specs.Least.{least_after}
use Rattle.verilog_rules.specs.NameRules.{operand_check}
use Rattle.verilog_rules.specs.Resolving.{operand}
use Rattle.verilog_names.proofs.values.read_all.Given as goal

abbrev pub invariant-loop-name : goal.invariant-loop-name
invariant-loop-name l =
    (l.operands.items ++ map (operand l.wires) (drop l.name-index l.names) ≡ l.initial.operands.items ++ map (operand l.wires) l.names)
    × (least_after l.least (map (operand_check l.wires) (drop l.name-index l.names)) ≡ least_after l.initial.least (map (operand_check l.wires) l.names))
