-- what serves the wires so far is marked
use Rattle.std.proofs.Common.{take}
use Rattle.net_share.specs.Marking.{Marks, served}
use Rattle.net_share.proofs.marking.mark_all.Given as goal

abbrev pub invariant-loop-wire : goal.invariant-loop-wire
invariant-loop-wire l =
    Marks l.initial.needed.marks.items l.initial.needed.found.items l.needed.marks.items l.needed.found.items
    (served l.servers (take l.wire-index l.wires))
