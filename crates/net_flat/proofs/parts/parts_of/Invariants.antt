-- what is so far are flat wires and cells in order, and the rest is that of the waiting instances
use Rattle.std.proofs.Common.{◌-◌, length}
use Rattle.chw_base.specs.declared.limits.TheConstants.{FLAT_WIRES}
use Rattle.net_flat.proofs.SoFar.{SoFar}
use Rattle.net_flat.proofs.parts.parts_of.Given as goal

abbrev pub invariant-loop-x : goal.invariant-loop-x
invariant-loop-x l = SoFar l.net l.parts

abbrev pub decreases-loop-x : goal.decreases-loop-x
decreases-loop-x l = FLAT_WIRES - length l.parts.widths.items
