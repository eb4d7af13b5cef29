-- What is answered of terms with types and of terms without.
use Rattle.std.specs.Prelude.{◌≡◌, Option, None}
use Rattle.chw_terms.specs.declared.rule.Rule.{Rule}
use Rattle.chw_terms.specs.declared.rule.Rule.TheVariants.{Spec}
use Rattle.chw_terms.specs.declared.scene.Scene.{Scene}
use Rattle.chw_terms.specs.TermTree.{TermTree}
use Rattle.rewriting.specs.Origins.{Origins, origins_of}
use Rattle.rewriting.specs.Spots.{Spot}
use Rattle.rule_parts.specs.Cores.{Answers, HasTypeAt, IsInstanceAnswer}
use Rattle.rule_parts.specs.Kept.{KeepsTypes}
use Rattle.rule_parts.specs.Laws.{IsOfCores}

-- what a rule makes of cores of a term with a type are its instances
abbrev pub AnswersAreInstances : Type 0
AnswersAreInstances =
    (o : Origins) (at : Spot) (r : Rule) (e : TermTree) (answer : Option TermTree)
    → IsOfCores r → HasTypeAt o at e → Answers o at r e answer → IsInstanceAnswer o at r e answer

-- a term without a type has no instance
abbrev pub UntypedHasNone : Type 0
UntypedHasNone =
    (o : Origins) (at : Spot) (r : Rule) (e : TermTree)
    → (HasTypeAt o at e → ⊥) → IsInstanceAnswer o at r e None

-- an instance keeps types, but for the rule of made definitions
abbrev pub InstanceAnswersKeep : Type 0
InstanceAnswersKeep =
    (scene : Scene) (at : Spot) (r : Rule) (e : TermTree) (answer : Option TermTree)
    → (r ≡ Spec → ⊥) → IsInstanceAnswer (origins_of scene) at r e answer
    → KeepsTypes scene at e answer
