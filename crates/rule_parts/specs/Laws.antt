-- What rules make of terms with types are their instances there.
use Rattle.std.specs.Prelude.{[]}
use Rattle.chw_types.specs.TypeTree.{TypeTree}
use Rattle.chw_terms.specs.declared.rule.Rule.{Rule}
use Rattle.chw_terms.specs.declared.rule.Rule.TheVariants.{Spec, Anf}
use Rattle.chw_terms.specs.TermTree.{TermTree}
use Rattle.chw_typing.specs.Typing.{HasType}
use Rattle.rewriting.specs.Origins.{Origins, setting_at}
use Rattle.rewriting.specs.Spots.{Spot}
use Rattle.rewriting.specs.Instances.{HasInstance}
use Rattle.rule_parts.specs.Cores.{MakesOf}

-- a rule that makes nothing of whole terms
abbrev pub IsOfCores : Rule → Type 0
IsOfCores Spec = ⊥
IsOfCores Anf = ⊥
IsOfCores _ = Unit {0}

-- what a rule makes of a term with a type is its instance there
abbrev pub MadeIsInstance : Type 0
MadeIsInstance =
    (o : Origins) (at : Spot) (r : Rule) (e e' : TermTree) (t : TypeTree)
    → MakesOf o at r e e' → HasType (setting_at o) [] at.vars e t → HasInstance o at r e e'

-- and a rule that makes nothing of whole terms has no other instances
abbrev pub InstanceIsMade : Type 0
InstanceIsMade =
    (o : Origins) (at : Spot) (r : Rule) (e e' : TermTree)
    → IsOfCores r → HasInstance o at r e e' → MakesOf o at r e e'
