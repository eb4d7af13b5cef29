-- The rules on a module: those before its items, and those on its items.
use Rattle.std.specs.Prelude.{List, [], ◌∷◌, ◌++◌, None, map, not}
use Rattle.name_tables.specs.Names.{is_among}
use Rattle.verilog_rules.specs.Checks.{Check, check}
use Rattle.verilog_rules.specs.Declarations.{declared_words, input_wires, line_name}
use Rattle.verilog_rules.specs.Declarations.{outputs_of, ports_in, signals_of}
use Rattle.verilog_rules.specs.NameRules.{Place, items_checks, module_names, once_checks}
use Rattle.verilog_rules.specs.NameRules.{order_checks, signal_checks}
use Rattle.verilog_tree.specs.Sources.{bytes_of}
use Rattle.verilog_tree.specs.declared.module.Module.{Module}

-- the module's name is none of those before it; its ports and its names
abbrev pub port_rules : Place → Module → List Check
port_rules place m =
    check m.name.at (not (is_among (module_names place.earlier) (bytes_of m.name)))
    ∷ (order_checks 0 (ports_in m)
    ++ (signal_checks None (signals_of (ports_in m)) ++ once_checks [] (declared_words m)))

-- the rules on its items
abbrev pub module_items : Place → Module → List Check
module_items place m =
    items_checks place (map line_name (outputs_of (ports_in m))) (input_wires m) m.items
