-- The rules on functions.
use Rattle.chw_terms.specs.declared.rule.Rule.{Rule}
use Rattle.chw_terms.specs.declared.rule.Rule.TheVariants.{TyBeta, Beta, AppLet, AppCase}

-- the rules on a lambda, a letrec and a case that are applied
abbrev pub IsOfFunctions : Rule → Type 0
IsOfFunctions TyBeta = Unit {0}
IsOfFunctions Beta = Unit {0}
IsOfFunctions AppLet = Unit {0}
IsOfFunctions AppCase = Unit {0}
IsOfFunctions _ = ⊥
