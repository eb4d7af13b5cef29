use Rattle.chw_terms.specs.TermSize.{tree_size}
use Rattle.specialise.proofs.opened.+first_body.Given as goal

abbrev pub decreases-first_body : goal.decreases-first_body
decreases-first_body l = tree_size l.origin.now
