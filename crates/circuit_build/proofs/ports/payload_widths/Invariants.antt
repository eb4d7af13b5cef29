-- the widths so far, with those of the leaves that are left, are those of all
use Rattle.std.proofs.Common.{◌≡◌}
use Rattle.circuit_build.proofs.PortParts.{PayloadsSoFar}
use Rattle.circuit_build.proofs.ports.payload_widths.Given as goal

abbrev pub invariant-loop-leaf : goal.invariant-loop-leaf
invariant-loop-leaf l =
    PayloadsSoFar l.initial.base.datas l.leaves l.leaf-index l.widths.items × (l.base ≡ l.initial.base)
