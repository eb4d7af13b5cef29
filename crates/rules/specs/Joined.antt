-- Where the rule that joins letrecs has an instance.
use Rattle.chw_terms.specs.declared.rule.Rule.TheVariants.{Flat}
use Rattle.chw_terms.specs.TermTree.{TermTree}
use Rattle.rewriting.specs.Instances.{HasInstance}
use Rattle.rewriting.specs.Origins.{Origins}
use Rattle.rewriting.specs.Spots.{Spot}

-- the rule that joins letrecs has an instance on the term at this place
abbrev pub Joins : Origins → Spot → TermTree → Type 0
Joins o at e = (new : TermTree) × HasInstance o at Flat e new
