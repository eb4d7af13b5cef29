-- the ports so far
use Rattle.std.proofs.Common.{◌≡◌}
use Rattle.net_build.proofs.Ports.{PortsSoFar}
use Rattle.net_build.proofs.tops.ports_of.Given as goal

abbrev pub invariant-loop-i : goal.invariant-loop-i
invariant-loop-i l =
    PortsSoFar l.initial.base.datas l.leaves l.names l.i l.ports.items × (l.base ≡ l.initial.base)
