-- the names so far are declared
use Rattle.std.proofs.Common.{[], ◌∷◌, take}
use Rattle.std.specs.List.{flat_map}
use Rattle.verilog_names.specs.Declares.{Declares}
use Rattle.verilog_rules.specs.Declarations.{port_word}
use Rattle.verilog_tree.specs.declared.module.Port.{Port}
use Rattle.verilog_names.proofs.once.declare_ports.Given as goal

abbrev pub invariant-loop-port : goal.invariant-loop-port
invariant-loop-port l =
    Declares l.initial.known l.known l.initial.least l.least (flat_map (λ (p : Port). port_word p ∷ []) (take l.port-index l.ports))
