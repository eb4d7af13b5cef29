use Rattle.std.proofs.Common.{◌≡◌, take, map}
use Rattle.name_tables.specs.Names.{AreDistinct}
use Rattle.net_rules.specs.PortsHold.{full_name}
use Rattle.net_rules.proofs.FullNames.{names_of_keys}
use Rattle.net_rules.proofs.well_formed.ports.are_apart.Given as goal

-- the full names of the ports so far, of which none stands twice
abbrev pub invariant-loop-port : goal.invariant-loop-port
invariant-loop-port l = record {
  known : names_of_keys l.known.keys ≡ take l.port-index (map full_name l.ports);
  distinct : AreDistinct (take l.port-index (map full_name l.ports));
}
