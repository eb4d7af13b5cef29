-- nothing is found in the made definitions so far, and what was tried there
use Rattle.trials.specs.Trials.{built}
use Rattle.step_search.proofs.LookedStates.{LooksBelow}
use Rattle.step_search.proofs.States.{HasNoneBelow}
use Rattle.step_search.proofs.state.next_from.Given as goal

abbrev pub invariant-loop-number : goal.invariant-loop-number
invariant-loop-number g l = record {
  none : HasNoneBelow built l.fn.scene.program.now l.fn.scene.made.now l.number l.from.made.number l.from.path.items;
  looks :
      LooksBelow built l.fn.scene.program.now l.fn.scene.made.now l.number l.from.made.number l.from.path.items
      (g.R.Looks.looks l.fn.rules) (g.R.Looks.looks l.rules);
}
