-- the ports and names that are left are still to be joined
use Rattle.std.proofs.Common.{◌≡◌, ◌++◌, drop}
use Rattle.verilog_checks.specs.Least.{least_after}
use Rattle.verilog_rules.specs.NameRules.{connection_checks}
use Rattle.verilog_rules.specs.Resolving.{drives_of, reads_of}
use Rattle.verilog_names.proofs.uses.connect_all.Given as goal

abbrev pub invariant-loop-i : goal.invariant-loop-i
invariant-loop-i l =
    record {
      reads : l.reads.items ++ reads_of l.wires (drop l.i l.ports) (drop l.i l.connections) ≡ l.initial.reads.items ++ reads_of l.wires l.ports l.connections;
      drives : l.drives.items ++ drives_of l.wires (drop l.i l.ports) (drop l.i l.connections) ≡ l.initial.drives.items ++ drives_of l.wires l.ports l.connections;
      checks :
          least_after l.least (connection_checks l.wires l.close (drop l.i l.ports) (drop l.i l.connections))
          ≡ least_after l.initial.least (connection_checks l.wires l.close l.ports l.connections);
    }
