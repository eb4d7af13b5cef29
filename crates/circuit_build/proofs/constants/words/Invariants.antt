-- the words so far
use Rattle.std.proofs.Common.{◌≡◌}
use Rattle.circuit_build.proofs.ConstantBits.{WordsSoFar}
use Rattle.circuit_build.proofs.constants.words.Given as goal

abbrev pub invariant-loop-element : goal.invariant-loop-element
invariant-loop-element l =
    WordsSoFar l.initial.base.datas l.t l.elements l.element-index l.words.items × (l.base ≡ l.initial.base)
