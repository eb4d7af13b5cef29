use Rattle.std.proofs.Common.{◌≡◌, take}
use Rattle.name_tables.specs.Names.{AreDistinct}
use Rattle.net_rules.proofs.well_formed.ports.are_distinct.Given as goal

-- the names so far, of which none stands twice
abbrev pub invariant-loop-name : goal.invariant-loop-name
invariant-loop-name l = record { known : l.known ≡ take l.name-index l.names; distinct : AreDistinct (take l.name-index l.names) }
