-- the marks so far
use Rattle.std.proofs.Common.{◌≡◌}
use Rattle.net_build.proofs.OutputMarks.{MarkedSoFar}
use Rattle.net_build.proofs.outputs.outputs.Given as goal

abbrev pub invariant-loop-it : goal.invariant-loop-it
invariant-loop-it l =
    MarkedSoFar l.initial.base.datas l.made l.it-index l.has.items × (l.base ≡ l.initial.base)
