-- What the rules on names say of a resolved text: the drivers of a module drive its own wires and
-- outputs.
use Rattle.std.specs.Prelude.{ℕ, ◌<◌, ◌≤◌, List, length}
use Rattle.std.specs.List.{AllByRecursion, flat_map}
use Rattle.verilog_rules.specs.DriverRules.{OutputAt, drives, shows, wire_number}
use Rattle.verilog_rules.specs.declared.resolved.Operand.{Operand}
use Rattle.verilog_rules.specs.declared.resolved.ResolvedModule.{ResolvedModule}

-- each of these is one of so many wires
abbrev pub AreWires : (count : ℕ) → List Operand → Type 0
AreWires count driven = AllByRecursion (λ (a : Operand). wire_number a < count) driven

-- each of these is one of so many outputs
abbrev pub AreOutputs : (count : ℕ) → List OutputAt → Type 0
AreOutputs count shown = AllByRecursion (λ (o : OutputAt). o.number < count) shown

-- the first wires are the inputs, and the drivers drive wires and outputs of the module
pub record DrivesItsOwn (m : ResolvedModule) : Type 0 where
  pub inputs : m.inputs ≤ length m.wires
  pub wires : AreWires (length m.wires) (flat_map drives m.drivers)
  pub outputs : AreOutputs (length m.outputs) (flat_map shows m.drivers)

-- the modules of a text
abbrev pub DriveTheirOwn : List ResolvedModule → Type 0
DriveTheirOwn modules = AllByRecursion DrivesItsOwn modules
