use Rattle.rewriting.specs.Origins.{origins_of}
use Rattle.rewriting.specs.Spots.{spot_of}
use Rattle.work_operands.specs.Firsts.{NoneBefore}
use Rattle.work_operands.proofs.finding.first_argument.Given as goal

abbrev pub invariant-loop-number : goal.invariant-loop-number
invariant-loop-number l = NoneBefore (origins_of l.scene) (spot_of l.place) l.among l.args l.number
