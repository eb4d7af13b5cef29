-- the kept wires so far have their numbers
use Rattle.net_share.specs.Numbering.{AreNumbered}
use Rattle.net_share.proofs.numbering.new_numbers.Given as goal

abbrev pub invariant-loop-k : goal.invariant-loop-k
invariant-loop-k l = AreNumbered l.inputs l.count l.kept l.numbers.items l.k
