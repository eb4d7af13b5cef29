use Rattle.std.proofs.Common.{take}
use Rattle.work_prims.specs.Given.{AreWords}
use Rattle.work_prims.proofs.results.words.Given as goal

abbrev pub invariant-loop-arg : goal.invariant-loop-arg
invariant-loop-arg l = AreWords (take l.arg-index l.args) l.done.items
