-- the names that are left are still to be looked at
use Rattle.std.proofs.Common.{◌≡◌, drop}
use Rattle.verilog_checks.specs.Least.{least_after}
use Rattle.verilog_judge.specs.Marks.{unmarked_checks}
use Rattle.verilog_judge.proofs.module_drivers.check_marks.Given as goal

abbrev pub invariant-loop-k : goal.invariant-loop-k
invariant-loop-k l = least_after l.least (unmarked_checks (drop l.k l.marks) (drop l.k l.names)) ≡ least_after l.initial.least (unmarked_checks l.marks l.names)
