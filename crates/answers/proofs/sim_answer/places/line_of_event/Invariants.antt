-- the lines before what is left, and their events
use Rattle.std.proofs.Common.{length}
use Rattle.answers.proofs.SimAnswer.Lines.{Walked}
use Rattle.answers.proofs.sim_answer.places.line_of_event.Given as goal

abbrev pub invariant-loop-left : goal.invariant-loop-left
invariant-loop-left l = Walked l.ports l.text l.left l.line l.events l.place

abbrev pub decreases-loop-left : goal.decreases-loop-left
decreases-loop-left l = length l.left
