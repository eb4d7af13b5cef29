-- the calls go from a lambda to its body, which is smaller
use Rattle.chw_terms.specs.TermSize.{tree_size}
use Rattle.blocked_places.proofs.bodies.+in_lambdas.Given as goal

abbrev pub decreases-in_lambdas : goal.decreases-in_lambdas
decreases-in_lambdas l = tree_size l.at.now
