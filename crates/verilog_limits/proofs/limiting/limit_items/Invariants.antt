-- the checks of what is left are still to be taken
use Rattle.std.proofs.Common.{◌≡◌, drop}
use Rattle.std.specs.List.{flat_map}
use Rattle.verilog_checks.specs.Least.{least_after}
use Rattle.verilog_rules.specs.Limits.{item_limits}
use Rattle.verilog_limits.proofs.limiting.limit_items.Given as goal

abbrev pub invariant-loop-item : goal.invariant-loop-item
invariant-loop-item l = least_after l.least (flat_map item_limits (drop l.item-index l.items)) ≡ least_after l.initial.least (flat_map item_limits l.items)
