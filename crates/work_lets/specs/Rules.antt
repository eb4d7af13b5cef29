-- The rules that take bindings out of a letrec.
use Rattle.chw_terms.specs.declared.rule.Rule.{Rule}
use Rattle.chw_terms.specs.declared.rule.Rule.TheVariants.{Dead, Inline}

-- bindings that the body doesn't reach go, and one is put for its name
abbrev pub IsOfWorkLets : Rule → Type 0
IsOfWorkLets Dead = Unit {0}
IsOfWorkLets Inline = Unit {0}
IsOfWorkLets _ = ⊥
