-- What the rule on operands answers of a term with a type is its instance.
use Rattle.std.proofs.Common.{◌≡◌, Option, Some, None, inl, inr}
use Rattle.chw_terms.specs.declared.rule.Rule.{Rule}
use Rattle.chw_terms.specs.declared.rule.Rule.TheVariants.{Dead, Inline, Unfold, Unroll, Elem, Delta, ApPure, Eta, Anf}
use Rattle.chw_terms.specs.TermTree.{TermTree}
use Rattle.rewriting.specs.Origins.{Origins}
use Rattle.rewriting.specs.Spots.{Spot}
use Rattle.rewriting.specs.Instances.{HasInstance, on_core, on_whole}
use Rattle.rule_parts.specs.Cores.{MakesOf, of_core, HasTypeAt, IsInstanceAnswer}
use Rattle.work_operands.specs.Firsts.{AnswersWhole}

pub whole_is_instance : (o : Origins) (at : Spot) (r : Rule) (e e' : TermTree) → HasTypeAt o at e → MakesOf o at r e e' → HasInstance o at r e e'
whole_is_instance o at r e e' (t, h) (of_core core core' rest m) = on_core core core' rest m h

none_left : (o : Origins) (at : Spot) (r : Rule) (e : TermTree) → AnswersWhole o at r e None → (e' : TermTree) → HasInstance o at r e e' → ⊥
none_left o at r e none e' (on_core core core' rest m h) = none e' (inl (of_core core core' rest m))
none_left o at r e none e' (on_whole w h) = none e' (inr w)

pub are_instances : (o : Origins) (at : Spot) (r : Rule) (e : TermTree) (answer : Option TermTree) → HasTypeAt o at e → AnswersWhole o at r e answer → IsInstanceAnswer o at r e answer
are_instances o at r e (Some e') typed (inl m) = whole_is_instance o at r e e' typed m
are_instances o at r e (Some e') typed (inr w) = on_whole w typed.1
are_instances o at r e None typed none = none_left o at r e none
