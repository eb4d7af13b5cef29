-- what the wires before the next one need was found
use Rattle.std.proofs.Common.{◌-◌, length}
use Rattle.net_share.specs.Marking.{LookedAt}
use Rattle.net_share.proofs.needed.needed_wires.Given as goal

abbrev pub invariant-loop-next : goal.invariant-loop-next
invariant-loop-next l = LookedAt l.flat l.servers l.needed.marks.items l.needed.found.items l.next

abbrev pub decreases-loop-next : goal.decreases-loop-next
decreases-loop-next l = length l.flat.widths - l.next
