-- so many steps are made, by searches of which the next suits the state
use Rattle.chw_norm.proofs.Goes.{IsOnTheWay}
use Rattle.chw_norm.proofs.running.run.Given as goal

abbrev pub invariant-loop-left : goal.invariant-loop-left
invariant-loop-left g l =
    IsOnTheWay l.program l.budget l.fn.trace.items l.trace.items l.left l.run l.finder
    (g.R.Looks.looks l.fn.rules) (g.R.Looks.looks l.rules)

abbrev pub decreases-loop-left : goal.decreases-loop-left
decreases-loop-left g l = l.left
