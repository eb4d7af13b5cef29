use Rattle.rewriting.specs.Origins.{origins_of}
use Rattle.rewriting.specs.Spots.{spot_of}
use Rattle.work_operands.specs.Firsts.{NoElementBefore}
use Rattle.work_operands.proofs.finding.first_element.Given as goal

abbrev pub invariant-loop-number : goal.invariant-loop-number
invariant-loop-number l = NoElementBefore (origins_of l.scene) (spot_of l.place) l.elements l.number
