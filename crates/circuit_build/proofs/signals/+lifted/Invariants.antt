-- the calls go into the function of a lifted term
use Rattle.std.proofs.Common.{◌+◌, ◌*◌}
use Rattle.chw_terms.specs.TermSize.{tree_size}
use Rattle.circuit_build.proofs.signals.+lifted.Given as goal

abbrev pub decreases-lifted : goal.decreases-lifted
decreases-lifted l = 2 * tree_size l.u.now

abbrev pub decreases-lifted_on_more : goal.decreases-lifted_on_more
decreases-lifted_on_more l = 2 * tree_size l.p.function.now + 1
