-- the signals that are left are still to be looked at
use Rattle.std.proofs.Common.{◌≡◌, drop, None}
use Rattle.std.specs.Option.{option_map}
use Rattle.verilog_checks.specs.Least.{least_after}
use Rattle.verilog_rules.specs.NameRules.{signal_checks}
use Rattle.verilog_tree.specs.Sources.{bytes_of}
use Rattle.verilog_names.proofs.ports.check_signals.Given as goal

abbrev pub invariant-loop-signal : goal.invariant-loop-signal
invariant-loop-signal l =
    least_after l.least (signal_checks (option_map bytes_of l.before) (drop l.signal-index l.signals)) ≡ least_after l.initial.least (signal_checks None l.signals)
