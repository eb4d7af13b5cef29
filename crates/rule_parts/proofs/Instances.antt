-- What is made of a typed term is an instance, and of rules that make nothing of whole terms there are no others.
use Rattle.std.specs.Prelude.{[]}
use Rattle.chw_types.specs.TypeTree.{TypeTree}
use Rattle.chw_terms.specs.declared.rule.Rule.{Rule}
use Rattle.chw_terms.specs.TermTree.{TermTree}
use Rattle.chw_typing.specs.Typing.{HasType}
use Rattle.rewriting.specs.Origins.{Origins, setting_at}
use Rattle.rewriting.specs.Spots.{Spot}
use Rattle.rewriting.specs.Calls.{OfWhole, spec_call, anf_call, anf_result}
use Rattle.rewriting.specs.Instances.{HasInstance, on_core, on_whole}
use Rattle.rule_parts.specs.Cores.{MakesOf, of_core}
use Rattle.rule_parts.specs.Laws.{IsOfCores}

pub made_is_instance : {o : Origins} {at : Spot} {r : Rule} {e e' : TermTree} {t : TypeTree} → MakesOf o at r e e' → HasType (setting_at o) [] at.vars e t → HasInstance o at r e e'
made_is_instance (of_core core core' rest m) h = on_core core core' rest m h

not_whole : {o : Origins} {at : Spot} {r : Rule} {e e' : TermTree} → IsOfCores r → OfWhole o at r e e' → ⊥
not_whole i (spec_call l c n) = i
not_whole i (anf_call f t) = i
not_whole i (anf_result l r v w n t) = i

pub instance_is_made : {o : Origins} {at : Spot} {r : Rule} {e e' : TermTree} → IsOfCores r → HasInstance o at r e e' → MakesOf o at r e e'
instance_is_made i (on_core core core' rest m h) = of_core core core' rest m
instance_is_made i (on_whole w h) = absurd (not_whole i w)
