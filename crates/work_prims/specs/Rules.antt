-- The rules on primitives with all their arguments.
use Rattle.chw_terms.specs.declared.rule.Rule.{Rule}
use Rattle.chw_terms.specs.declared.rule.Rule.TheVariants.{Unroll, Elem, Delta}

-- the rules that write a primitive out, take an element of a written vector, and compute
abbrev pub IsOfPrimitives : Rule → Type 0
IsOfPrimitives Unroll = Unit {0}
IsOfPrimitives Elem = Unit {0}
IsOfPrimitives Delta = Unit {0}
IsOfPrimitives _ = ⊥
