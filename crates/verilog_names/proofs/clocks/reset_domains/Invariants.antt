-- those of the signals that are left are still to be added, and there are no more clocks than signals
use Rattle.std.proofs.Common.{◌≡◌, ◌≤◌, ◌++◌, drop}
use Rattle.verilog_rules.specs.Declarations.{resets_of}
use Rattle.verilog_names.proofs.clocks.reset_domains.Given as goal

abbrev pub invariant-loop-signal : goal.invariant-loop-signal
invariant-loop-signal l = record {
  left : l.resets.items ++ resets_of l.clocks (drop l.signal-index l.signals) ≡ resets_of 0 l.signals;
  few : l.clocks ≤ l.signal-index;
}
