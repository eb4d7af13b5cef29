-- the limits on the modules that are left are still to be looked at
use Rattle.std.proofs.Common.{◌≡◌, drop}
use Rattle.verilog_checks.specs.Least.{least_after}
use Rattle.verilog_rules.specs.Limits.{limits_from}
use Rattle.verilog_limits.proofs.limiting.limit_modules.Given as goal

abbrev pub invariant-loop-k : goal.invariant-loop-k
invariant-loop-k l = least_after l.least (limits_from l.k (drop l.k l.modules)) ≡ least_after l.initial.least (limits_from 0 l.modules)
