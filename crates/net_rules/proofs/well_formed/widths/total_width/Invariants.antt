use Rattle.std.proofs.Common.{◌≡◌, ◌≤◌, ◌*◌, take}
use Rattle.std.specs.List.{AllByRecursion}
use Rattle.netlist.specs.Sound.{IsWire, width_of_all}
use Rattle.net_rules.proofs.well_formed.widths.total_width.Given as goal

-- the wires so far exist, and this is how many bits they have
abbrev pub invariant-loop-part : goal.invariant-loop-part
invariant-loop-part l = record {
  exist : AllByRecursion (IsWire l.widths) (take l.part-index l.parts);
  total : l.total ≡ width_of_all l.widths (take l.part-index l.parts);
  small : l.total ≤ l.part-index * 4294967295;
}
