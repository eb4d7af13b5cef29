-- nothing blocks at the parts so far, and what falls from call to call
use Rattle.std.proofs.Common.{◌≡◌, ◌+◌, ◌*◌}
use Rattle.chw_terms.specs.TermSize.{tree_size}
use Rattle.rewriting.specs.Origins.{origins_of}
use Rattle.active_parts.specs.Parts.{around, path_to}
use Rattle.blocked_places.proofs.Nearest.{NoneBefore}
use Rattle.blocked_places.proofs.walk.+walk.Given as goal

abbrev pub invariant-first_part-loop-number : goal.invariant-first_part-loop-number
invariant-first_part-loop-number l = record {
  same : l.place ≡ l.fn.place;
  widths : l.widths ≡ l.fn.widths;
  none : NoneBefore (origins_of l.ground.scene.now) (around l.fn.place l.at) l.at (path_to l.at) l.number;
}

-- the calls go from a term to its parts, which are smaller
abbrev pub decreases-first_at : goal.decreases-first_at
decreases-first_at l = 5 * tree_size l.part.term.now + 4

abbrev pub decreases-first_from : goal.decreases-first_from
decreases-first_from l = 5 * tree_size l.at.now + 3

abbrev pub decreases-below : goal.decreases-below
decreases-below l = 5 * tree_size l.at.now + 2

abbrev pub decreases-first_part : goal.decreases-first_part
decreases-first_part l = 5 * tree_size l.at.now + 1

abbrev pub decreases-in_part : goal.decreases-in_part
decreases-in_part l = 5 * tree_size l.at.now
