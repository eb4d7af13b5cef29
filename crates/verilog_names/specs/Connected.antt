-- The checks of one connection.
use Rattle.std.specs.Prelude.{List, [], ◌∷◌}
use Rattle.std.specs.Str.{bytes_eq}
use Rattle.verilog_rules.specs.Checks.{Check, check}
use Rattle.verilog_rules.specs.Declarations.{port_word}
use Rattle.verilog_rules.specs.NameRules.{joins}
use Rattle.verilog_rules.specs.declared.resolved.Wire.{Wire}
use Rattle.verilog_tree.specs.Sources.{bytes_of}
use Rattle.verilog_tree.specs.declared.item.Connection.{Connection}
use Rattle.verilog_tree.specs.declared.module.Port.{Port}

-- the connection names this port, and a name that may be joined to it
abbrev pub joined_checks : List Wire → Port → Connection → List Check
joined_checks wires p c =
    check c.port.at (bytes_eq (bytes_of c.port) (bytes_of (port_word p)))
    ∷ check c.wire.at (joins wires p (bytes_of c.wire)) ∷ []
