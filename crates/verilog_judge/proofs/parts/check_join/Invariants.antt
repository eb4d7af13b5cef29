-- the checks of the wires that are left are still to be taken, and the sum so far is no large number
use Rattle.std.proofs.Common.{◌≡◌, ◌≤◌, ◌*◌, drop}
use Rattle.verilog_checks.specs.Least.{least_after}
use Rattle.verilog_rules.specs.WidthRules.{join_checks}
use Rattle.verilog_judge.proofs.parts.check_join.Given as goal

abbrev pub invariant-loop-a : goal.invariant-loop-a
invariant-loop-a l = record {
  left : least_after l.least (join_checks l.widths l.n l.sum (drop l.a-index l.parts) l.close) ≡ least_after l.initial.least (join_checks l.widths l.n 0 l.parts l.close);
  small : l.sum ≤ l.a-index * 4294967296;
}
