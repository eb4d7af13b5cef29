use Rattle.std.proofs.Common.{◌≡◌, map, take}
use Rattle.chw_terms.specs.TermMoves.{shift}
use Rattle.flow_cases.specs.Given.{terms_in}
use Rattle.flow_cases.proofs.given.terms_under.Given as goal

abbrev pub invariant-loop-arg : goal.invariant-loop-arg
invariant-loop-arg l = l.terms.items ≡ map (λ e. shift e 0 l.by) (terms_in (take l.arg-index l.args))
