-- so for the bindings so far
use Rattle.std.proofs.Common.{take}
use Rattle.blocked_places.specs.Cycles.{AreCounted}
use Rattle.blocked_places.proofs.cycles.counted.Given as goal

abbrev pub invariant-loop-binding : goal.invariant-loop-binding
invariant-loop-binding l = AreCounted l.datas l.mode (take l.binding-index l.bindings) l.flags.items
