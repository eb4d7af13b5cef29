use Rattle.std.proofs.Common.{◌≡◌, length}
use Rattle.chw_typing.specs.HeadTypes.{from_each}
use Rattle.rewriting.specs.Origins.{under_each}
use Rattle.specialise.proofs.calls.over_each.Given as goal

abbrev pub invariant-loop-ty : goal.invariant-loop-ty
invariant-loop-ty l =
    (under_each l.types.items l.done ≡ under_each l.fn.types.items l.fn.term)
    × (from_each l.types.items l.whole ≡ from_each l.fn.types.items l.fn.gives)

abbrev pub decreases-loop-ty : goal.decreases-loop-ty
decreases-loop-ty l = length l.types.items
