-- The text in which each name is resolved: to a wire, to a domain or to a module. A name that is
-- unknown is resolved to 0, which matters nowhere, since the rules on names are looked at before.
use Rattle.std.specs.Prelude.{ℕ, List, [], ◌∷◌, ◌++◌, length, map, Option, Some, None, option_map}
use Rattle.std.specs.Option.{unwrap_or}
use Rattle.chw_base.specs.declared.index.DomId.{DomId}
use Rattle.chw_clock.specs.declared.event.Ports.{Ports}
use Rattle.name_tables.specs.Names.{place_of}
use Rattle.verilog_rules.specs.Declarations.{inputs_of, input_wires, line_name, modules_of}
use Rattle.verilog_rules.specs.Declarations.{outputs_of, ports_in, ports_of, wire_name, wires_by}
use Rattle.verilog_rules.specs.Declarations.{wires_of}
use Rattle.verilog_rules.specs.NameRules.{Place, domain_of, module_named, module_names}
use Rattle.verilog_rules.specs.declared.resolved.Address.{Address}
use Rattle.verilog_rules.specs.declared.resolved.Driver.{Driver}
use Rattle.verilog_rules.specs.declared.resolved.Driver.TheVariants as driver
use Rattle.verilog_rules.specs.declared.resolved.Operand.{Operand}
use Rattle.verilog_rules.specs.declared.resolved.RamOf.{RamOf}
use Rattle.verilog_rules.specs.declared.resolved.Resolved.{Resolved}
use Rattle.verilog_rules.specs.declared.resolved.ResolvedModule.{ResolvedModule}
use Rattle.verilog_rules.specs.declared.resolved.Value.{Value}
use Rattle.verilog_rules.specs.declared.resolved.Value.TheVariants as value
use Rattle.verilog_rules.specs.declared.resolved.Wire.{Wire}
use Rattle.verilog_tree.specs.Sources.{bytes_of}
use Rattle.verilog_tree.specs.declared.item.Access.{Access}
use Rattle.verilog_tree.specs.declared.item.Connection.{Connection}
use Rattle.verilog_tree.specs.declared.item.Edge.{Edge}
use Rattle.verilog_tree.specs.declared.item.Item.{Item}
use Rattle.verilog_tree.specs.declared.item.Item.TheVariants as item
use Rattle.verilog_tree.specs.declared.item.Ram.{Ram}
use Rattle.verilog_tree.specs.declared.item.Reset.{Reset}
use Rattle.verilog_tree.specs.declared.item.Use.{Use}
use Rattle.verilog_tree.specs.declared.module.Module.{Module}
use Rattle.verilog_tree.specs.declared.module.Port.{Port}
use Rattle.verilog_tree.specs.declared.module.Port.TheVariants.{Input, Output}
use Rattle.verilog_tree.specs.declared.module.Tree.{Tree}
use Rattle.verilog_tree.specs.declared.right.Right.{Right}
use Rattle.verilog_tree.specs.declared.right.Right.TheVariants.{Binary, Choice, Constant, Copy, Cut}
use Rattle.verilog_tree.specs.declared.right.Right.TheVariants.{Join, Unary}
use Rattle.verilog_tree.specs.declared.word.Word.{Word}

-- the wire of this name
abbrev pub operand : List Wire → Word → Operand
operand wires name = record {
  wire = record { number = unwrap_or (place_of (map wire_name wires) (bytes_of name)) 0 };
  at = name.at;
}

abbrev pub value_of : List Wire → Right → Value
value_of wires (Constant literal) = value.Constant literal
value_of wires (Copy a) = value.Copy (operand wires a)
value_of wires (Join parts) =
    value.Join (map (operand wires) (parts.first ∷ parts.others)) parts.close
value_of wires (Cut a range) = value.Cut (operand wires a) range
value_of wires (Unary op sign a) = value.Unary op sign (operand wires a)
value_of wires (Binary op sign a b) = value.Binary op sign (operand wires a) (operand wires b)
value_of wires (Choice c a b) = value.Choice (operand wires c) (operand wires a) (operand wires b)

-- an assignment to a wire
abbrev pub assigned : List Wire → Word → Right → Driver
assigned wires name right = driver.Assign (operand wires name) (value_of wires right)

-- an assignment to the output of this number, if there is one, and else to a wire
abbrev pub assigned_at : Option ℕ → List Wire → Word → Right → Driver
assigned_at (Some k) wires name (Copy a) = driver.Output k name.at (operand wires a)
assigned_at _ wires name right = assigned wires name right

-- the domain of this clock
abbrev pub clocked : Ports → Word → DomId
clocked ports clock = record { number = unwrap_or (domain_of ports clock) 0 }

abbrev pub edge_driver : Ports → List Wire → Edge → Driver
edge_driver ports wires edge =
    driver.Register (operand wires edge.register) (clocked ports edge.clock)
    (option_map (λ (reset : Reset). reset.literal) edge.reset) (operand wires edge.a)

abbrev pub address_of : List Wire → Access → Address
address_of wires access = record { address = operand wires access.address; count = access.count }

abbrev pub ram_of : Ports → List Wire → Ram → RamOf
ram_of ports wires ram = record {
  words = ram.first ∷ ram.others;
  «end» = ram.end;
  domain = clocked ports ram.clock;
  enable = operand wires ram.enable;
  write = address_of wires ram.write;
  value = operand wires ram.value;
  register = operand wires ram.register;
  read = address_of wires ram.read;
  zeros = ram.zeros;
}

-- the wires that are joined to the inputs among these ports
abbrev pub reads_of : List Wire → List Port → List Connection → List Operand
reads_of wires (Input l ∷ ports) (c ∷ connections) =
    operand wires c.wire ∷ reads_of wires ports connections
reads_of wires (_ ∷ ports) (c ∷ connections) = reads_of wires ports connections
reads_of wires _ _ = []

-- the wires that are joined to the outputs among these ports
abbrev pub drives_of : List Wire → List Port → List Connection → List Operand
drives_of wires (Output l ∷ ports) (c ∷ connections) =
    operand wires c.wire ∷ drives_of wires ports connections
drives_of wires (_ ∷ ports) (c ∷ connections) = drives_of wires ports connections
drives_of wires _ _ = []

-- the ports of the module of this name
abbrev pub ports_named : Option Module → List Port
ports_named None = []
ports_named (Some m) = ports_in m

abbrev pub use_driver : List Module → List Wire → Use → Driver
use_driver earlier wires u =
    let ports : List Port = ports_named (module_named earlier (bytes_of u.used)) in
    let connections : List Connection = u.first ∷ u.others in
    driver.Use
    (record {
      number = unwrap_or (place_of (module_names earlier) (bytes_of u.used)) 0;
    })
    (reads_of wires ports connections) (drives_of wires ports connections)

-- what an item drives something by, behind these wires
abbrev pub driver_of : Place → (outputs : List (List ℕ)) → List Wire → Item → List Driver
driver_of place outputs wires (item.Wire l) = []
driver_of place outputs wires (item.Register l literal memory) = []
driver_of place outputs wires (item.Assign name right) =
    assigned_at (place_of outputs (bytes_of name)) wires name right ∷ []
driver_of place outputs wires (item.Edge edge) = edge_driver place.ports wires edge ∷ []
driver_of place outputs wires (item.Ram ram) = driver.Ram (ram_of place.ports wires ram) ∷ []
driver_of place outputs wires (item.Use u) = use_driver place.earlier wires u ∷ []

-- what items drive something by, each behind the wires that are declared before it
abbrev pub drivers_of : Place → (outputs : List (List ℕ)) → List Wire → List Item → List Driver
drivers_of place outputs wires [] = []
drivers_of place outputs wires (item ∷ items) =
    driver_of place outputs wires item ++ drivers_of place outputs (wires ++ wires_by item) items

abbrev pub resolved_module : Place → Module → ResolvedModule
resolved_module place m = record {
  name = m.name;
  inputs = length (inputs_of (ports_in m));
  wires = wires_of m;
  outputs = outputs_of (ports_in m);
  drivers = drivers_of place (map line_name (outputs_of (ports_in m))) (input_wires m) m.items;
}

-- modules, each behind those before it
abbrev pub resolved_modules : Ports → List Module → List Module → List ResolvedModule
resolved_modules ports earlier [] = []
resolved_modules ports earlier (m ∷ modules) =
    resolved_module (record { ports = ports; earlier = earlier }) m
    ∷ resolved_modules ports (earlier ++ m ∷ []) modules

-- the text with its names resolved
abbrev pub resolved : Tree → Resolved
resolved tree = record {
  ports = ports_of tree;
  modules = resolved_modules (ports_of tree) [] (modules_of tree);
}
