-- those that are left are still to be added
use Rattle.std.proofs.Common.{◌≡◌, ◌++◌, drop, map}
use Rattle.verilog_rules.specs.Declarations.{input_wire}
use Rattle.verilog_names.proofs.modules.add_inputs.Given as goal

abbrev pub invariant-loop-line : goal.invariant-loop-line
invariant-loop-line l =
    l.wires ++ map input_wire (drop l.line-index l.inputs) ≡ l.initial.wires ++ map input_wire l.inputs
