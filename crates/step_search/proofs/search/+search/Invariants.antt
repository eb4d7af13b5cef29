-- nothing is found at the parts so far, what was tried there, and what falls from call to call
use Rattle.std.proofs.Common.{◌≡◌, ◌+◌, ◌*◌}
use Rattle.chw_terms.specs.TermSize.{tree_size}
use Rattle.rewriting.specs.Origins.{origins_of}
use Rattle.rewriting.specs.Active.{Below}
use Rattle.trials.specs.Trials.{built}
use Rattle.step_search.specs.First.{From, HasNoStepAt}
use Rattle.active_parts.specs.Parts.{around, path_to}
use Rattle.step_search.specs.Passed.{OfFirst}
use Rattle.step_search.specs.SeenPaths.{LooksAtPaths}
use Rattle.step_search.proofs.search.+search.Given as goal

abbrev pub invariant-first_part-loop-number : goal.invariant-first_part-loop-number
invariant-first_part-loop-number g l = record {
  same : l.place ≡ l.fn.place;
  none :
      HasNoStepAt built (origins_of l.ground.scene.now)
      (From (origins_of l.ground.scene.now)
      (OfFirst (Below (origins_of l.ground.scene.now) (around l.fn.place l.at) l.at) (path_to l.at) l.number))
      l.from;
  looks :
      LooksAtPaths built (origins_of l.ground.scene.now)
      (From (origins_of l.ground.scene.now)
      (OfFirst (Below (origins_of l.ground.scene.now) (around l.fn.place l.at) l.at) (path_to l.at) l.number))
      l.from (g.R.Looks.looks l.fn.rules) (g.R.Looks.looks l.rules);
}

-- the calls go from a term to its parts, which are smaller
abbrev pub decreases-first_at : goal.decreases-first_at
decreases-first_at g l = 5 * tree_size l.part.term.now + 4

abbrev pub decreases-first_from : goal.decreases-first_from
decreases-first_from g l = 5 * tree_size l.at.now + 3

abbrev pub decreases-below : goal.decreases-below
decreases-below g l = 5 * tree_size l.at.now + 2

abbrev pub decreases-first_part : goal.decreases-first_part
decreases-first_part g l = 5 * tree_size l.at.now + 1

abbrev pub decreases-in_part : goal.decreases-in_part
decreases-in_part g l = 5 * tree_size l.at.now
