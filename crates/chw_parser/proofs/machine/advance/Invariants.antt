use Rattle.chw_parser.specs.State.{Ahead}
use Rattle.chw_parser.specs.Ending.{weight}
use Rattle.chw_parser.proofs.machine.advance.Given as goal

abbrev pub invariant-loop-symbol : goal.invariant-loop-symbol
invariant-loop-symbol l = Ahead l.next l.initial.stack l.initial.parts l.stack l.parts

abbrev pub decreases-loop-symbol : goal.decreases-loop-symbol
decreases-loop-symbol l = weight l.stack
