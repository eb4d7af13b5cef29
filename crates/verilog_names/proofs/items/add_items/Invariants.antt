-- the items that are left are still to be added, behind the wires so far
use Rattle.std.proofs.Common.{◌≡◌, ◌++◌, drop}
use Rattle.std.specs.List.{flat_map}
use Rattle.verilog_checks.specs.Least.{least_after}
use Rattle.verilog_rules.specs.Declarations.{wires_by}
use Rattle.verilog_rules.specs.NameRules.{items_checks}
use Rattle.verilog_rules.specs.Resolving.{drivers_of}
use Rattle.verilog_names.proofs.items.add_items.Given as goal

abbrev pub invariant-loop-item : goal.invariant-loop-item
invariant-loop-item l =
    record {
      wires : l.wires ++ flat_map wires_by (drop l.item-index l.items) ≡ l.initial.wires ++ flat_map wires_by l.items;
      drivers :
          l.drivers.items ++ drivers_of l.place l.outputs l.wires (drop l.item-index l.items)
          ≡ l.initial.drivers.items ++ drivers_of l.place l.outputs l.initial.wires l.items;
      checks :
          least_after l.least (items_checks l.place l.outputs l.wires (drop l.item-index l.items))
          ≡ least_after l.initial.least (items_checks l.place l.outputs l.initial.wires l.items);
    }
