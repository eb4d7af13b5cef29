-- The rules on demanded arguments.
use Rattle.chw_terms.specs.declared.rule.Rule.{Rule}
use Rattle.chw_terms.specs.declared.rule.Rule.TheVariants.{PrimLet, PrimCase}

-- the rules on an argument of a primitive that is a letrec, and on one that is a case
abbrev pub IsOfDemanded : Rule → Type 0
IsOfDemanded PrimLet = Unit {0}
IsOfDemanded PrimCase = Unit {0}
IsOfDemanded _ = ⊥
