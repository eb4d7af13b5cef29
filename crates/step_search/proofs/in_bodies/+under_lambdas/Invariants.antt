-- the calls go from a lambda to its body, which is smaller
use Rattle.chw_terms.specs.TermSize.{tree_size}
use Rattle.step_search.proofs.in_bodies.+under_lambdas.Given as goal

abbrev pub decreases-under_lambdas : goal.decreases-under_lambdas
decreases-under_lambdas g l = tree_size l.at.now
