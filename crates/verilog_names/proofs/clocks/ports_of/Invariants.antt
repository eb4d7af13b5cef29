-- those of the lines that are left are still to be added
use Rattle.std.proofs.Common.{◌≡◌, ◌++◌, drop, map}
use Rattle.verilog_rules.specs.Declarations.{port_of}
use Rattle.verilog_names.proofs.clocks.ports_of.Given as goal

abbrev pub invariant-loop-line : goal.invariant-loop-line
invariant-loop-line l =
    l.ports.items ++ map (port_of l.domains) (drop l.line-index l.lines) ≡ map (port_of l.domains) l.lines
