-- The rules on cases.
use Rattle.chw_terms.specs.declared.rule.Rule.{Rule}
use Rattle.chw_terms.specs.declared.rule.Rule.TheVariants.{CaseCon, CaseLet, CaseCase, Proj}

-- the rules on a case by what it looks at: a constructor or a literal, a letrec, a case, a port
abbrev pub IsOfCases : Rule → Type 0
IsOfCases CaseCon = Unit {0}
IsOfCases CaseLet = Unit {0}
IsOfCases CaseCase = Unit {0}
IsOfCases Proj = Unit {0}
IsOfCases _ = ⊥
