use Rattle.std.proofs.Common.{◌≡◌, ◌-◌, take, length}
use Rattle.chw_typing.specs.HeadTypes.{for_each}
use Rattle.term_frames.proofs.constructors.for_each.Given as goal

abbrev pub invariant-loop-i : goal.invariant-loop-i
invariant-loop-i l = for_each (take (length l.kinds - l.i) l.kinds) l.done ≡ for_each l.kinds l.initial.done
