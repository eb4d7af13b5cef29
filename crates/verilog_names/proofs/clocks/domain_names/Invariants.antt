-- those of the signals that are left are still to be added
use Rattle.std.proofs.Common.{◌≡◌, ◌++◌, drop}
use Rattle.verilog_rules.specs.Declarations.{domains_of}
use Rattle.verilog_names.proofs.clocks.domain_names.Given as goal

abbrev pub invariant-loop-signal : goal.invariant-loop-signal
invariant-loop-signal l =
    l.names.items ++ domains_of (drop l.signal-index l.signals) ≡ domains_of l.signals
