use Rattle.std.proofs.Common.{◌≡◌, ◌-◌, take, length}
use Rattle.chw_typing.specs.HeadTypes.{from_each}
use Rattle.term_frames.proofs.constructors.from_each.Given as goal

abbrev pub invariant-loop-i : goal.invariant-loop-i
invariant-loop-i l = from_each (take (length l.fields - l.i) l.fields) l.done ≡ from_each l.fields l.initial.done
