-- The rules on names and on lifted functions.
use Rattle.chw_terms.specs.declared.rule.Rule.{Rule}
use Rattle.chw_terms.specs.declared.rule.Rule.TheVariants.{Unfold, Eta}

-- the rules that put a definition for its name, and lambdas before a lifted function
abbrev pub IsOfNames : Rule → Type 0
IsOfNames Unfold = Unit {0}
IsOfNames Eta = Unit {0}
IsOfNames _ = ⊥
