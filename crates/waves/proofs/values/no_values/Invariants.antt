-- the widths so far
use Rattle.std.proofs.Common.{◌≡◌, length, map, take}
use Rattle.waves.specs.Holding.{widths}
use Rattle.waves.proofs.values.no_values.Given as goal

abbrev pub invariant-loop-port : goal.invariant-loop-port
invariant-loop-port l = map length l.values.items ≡ widths (take l.port-index l.ports)
