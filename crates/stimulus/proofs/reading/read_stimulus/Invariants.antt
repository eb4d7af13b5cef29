use Rattle.std.proofs.Common.{length}
use Rattle.stimulus.proofs.Progress.{Reads}
use Rattle.stimulus.proofs.reading.read_stimulus.Given as goal

abbrev pub invariant-loop-left : goal.invariant-loop-left
invariant-loop-left l = Reads l.ports l.text l.left.text.now l.left.lines l.events.items

abbrev pub decreases-loop-left : goal.decreases-loop-left
decreases-loop-left l = length l.left.text.now
