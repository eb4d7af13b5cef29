-- What is answered of a term, by whether the term has a type.
use Rattle.std.proofs.Common.{◌≡◌, Option, Some, None}
use Rattle.chw_terms.specs.declared.rule.Rule.{Rule}
use Rattle.chw_terms.specs.declared.rule.Rule.TheVariants.{Spec}
use Rattle.chw_terms.specs.declared.scene.Scene.{Scene}
use Rattle.chw_terms.specs.TermTree.{TermTree}
use Rattle.rewriting.specs.Origins.{Origins, origins_of}
use Rattle.rewriting.specs.Spots.{Spot}
use Rattle.rewriting.specs.Instances.{HasInstance, on_core, on_whole}
use Rattle.rule_parts.specs.Cores.{Answers, HasTypeAt, IsInstanceAnswer}
use Rattle.rule_parts.specs.Kept.{KeepsTypes}
use Rattle.rule_parts.specs.Laws.{IsOfCores, MadeIsInstance, InstanceIsMade}
use Rattle.rule_types.specs.Laws.{IsTypedPlace, ScenesHaveTypedOrigins, InstancesKeepType, InstancesKeepComplete}

pub are_instances : (o : Origins) (at : Spot) (r : Rule) (e : TermTree) (answer : Option TermTree) → MadeIsInstance → InstanceIsMade → IsOfCores r → HasTypeAt o at e → Answers o at r e answer → IsInstanceAnswer o at r e answer
are_instances o at r e (Some e') made instance i typed m = made o at r e e' typed.0 m typed.1
are_instances o at r e None made instance i typed none = λ e' h. none e' (instance o at r e e' i h)

-- a term with an instance has a type
pub has_type : {o : Origins} {at : Spot} {r : Rule} {e e' : TermTree} → HasInstance o at r e e' → HasTypeAt o at e
has_type (on_core core core' rest {t} m h) = (t, h)
has_type (on_whole {t = t} w h) = (t, h)

pub keeps : (scene : Scene) (at : Spot) (r : Rule) (e : TermTree) (answer : Option TermTree) → ScenesHaveTypedOrigins → InstancesKeepType → InstancesKeepComplete → (r ≡ Spec → ⊥) → IsInstanceAnswer (origins_of scene) at r e answer → KeepsTypes scene at e answer
keeps scene at r e (Some e') origins types complete other h = λ typed vars.
    let o = origins_of scene in
    let from = origins scene typed in
    let place : IsTypedPlace o at = record { sound = from.sound; vars = vars } in
    (λ t has. types o at r e e' from place h other t has, λ all. complete o at r e e' from place h all)
keeps scene at r e None origins types complete other none = tt
