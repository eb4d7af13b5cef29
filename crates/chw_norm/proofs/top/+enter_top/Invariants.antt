-- the calls go from a lambda to its body, which is smaller
use Rattle.chw_terms.specs.TermSize.{tree_size}
use Rattle.chw_norm.proofs.top.+enter_top.Given as goal

abbrev pub decreases-enter_top : goal.decreases-enter_top
decreases-enter_top l = tree_size l.at.now
