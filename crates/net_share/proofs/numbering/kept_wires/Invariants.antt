-- the kept wires so far
use Rattle.net_share.specs.Numbering.{AreKept}
use Rattle.net_share.proofs.numbering.kept_wires.Given as goal

abbrev pub invariant-loop-w : goal.invariant-loop-w
invariant-loop-w l = AreKept l.inputs l.marks l.w l.kept.items
