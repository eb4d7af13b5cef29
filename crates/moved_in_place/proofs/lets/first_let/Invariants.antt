use Rattle.std.proofs.Common.{take}
use Rattle.chw_terms.specs.TermView.{group_of}
use Rattle.rewriting.specs.Shapes.{NoLetIn}
use Rattle.moved_in_place.proofs.lets.first_let.Given as goal

abbrev pub invariant-loop-i : goal.invariant-loop-i
invariant-loop-i l = NoLetIn (group_of (take l.i l.group))
