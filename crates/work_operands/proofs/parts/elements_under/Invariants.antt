use Rattle.std.proofs.Common.{◌≡◌, map, take}
use Rattle.chw_terms.specs.TermMoves.{shift}
use Rattle.work_operands.proofs.parts.elements_under.Given as goal

abbrev pub invariant-loop-element : goal.invariant-loop-element
invariant-loop-element l = l.made.items ≡ map (λ e. shift e 0 1) (take l.element-index l.elements)
