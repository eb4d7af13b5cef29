-- The wires of outputs, written one by one.
use Rattle.std.specs.Prelude.{List, [], ◌∷◌, Option, Some, None, set}
use Rattle.chw_base.specs.declared.index.WireId.{WireId}
use Rattle.verilog_rules.specs.declared.resolved.Driver.{Driver}
use Rattle.verilog_rules.specs.declared.resolved.Driver.TheVariants.{Output}

-- one item, or none
abbrev pub as_list : {X : Type 0} → Option X → List X
as_list None = []
as_list (Some x) = x ∷ []

-- the wire of an output that nothing drives
abbrev pub no_wire : WireId
no_wire = record { number = 0 }

-- the wires with that of a driver, where it is one of an output
abbrev pub shown_by : List WireId → Driver → List WireId
shown_by wires (Output k at a) = set wires k a.wire
shown_by wires _ = wires
