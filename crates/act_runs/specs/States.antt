-- What is promised of steps in a typed state: what every rule makes acts as what it was made of.
use Rattle.std.specs.Prelude.{◌≡◌, List, [], length, map}
use Rattle.chw_types.specs.TypeTree.{TypeTree}
use Rattle.chw_terms.specs.declared.program.Program.{Program}
use Rattle.chw_terms.specs.declared.rule.Rule.{Rule}
use Rattle.chw_terms.specs.declared.rule.Rule.TheVariants.{Spec}
use Rattle.chw_terms.specs.declared.scene.Made.{Made}
use Rattle.chw_terms.specs.declared.term.Arg.TheVariants.{OfTerm}
use Rattle.chw_terms.specs.Evaluated.{evaluated_in}
use Rattle.chw_terms.specs.FreeVariables.{free_in}
use Rattle.chw_terms.specs.TermMoves.{rename}
use Rattle.chw_terms.specs.TermTree.{TermTree, var}
use Rattle.chw_terms.specs.TermView.{applied}
use Rattle.chw_terms.specs.Tidy.{IsTidy}
use Rattle.chw_typing.specs.Programs.{IsTyped, setting_of}
use Rattle.chw_typing.specs.Scopes.{IsTermType, AreTermTypes}
use Rattle.chw_typing.specs.Typing.{HasTypeUpTo}
use Rattle.chw_meaning.specs.Gives.{Better}
use Rattle.chw_typing.specs.Paths.{with_part}
use Rattle.rewriting.specs.Origins.{Origins, origin_at, origin_of, setting_at, under_each}
use Rattle.rewriting.specs.Spots.{Spot}
use Rattle.rewriting.specs.Calls.{to_lambdas}
use Rattle.rewriting.specs.Instances.{HasInstance}
use Rattle.rewriting.specs.Runs.{After}
use Rattle.rewriting.specs.Steps.{origins_in, Where, HasStep}
use Rattle.rule_types.specs.States.{IsTypedState}
use Rattle.acts.specs.Terms.{ActsAs}
use Rattle.act_rules.specs.RuleLaws.{KeepsMeaning}
use Rattle.act_rules.specs.ContextLaws.{ActsAtTypes}

-- where rules see these made definitions, the first term acts as the second at each type of the
-- second, both with the origins of made definitions
abbrev pub ActsWithOrigins : Origins → List TypeTree → TermTree → TermTree → Type 0
ActsWithOrigins o vars e' e = ActsAtTypes o.program (setting_at o).made (origin_at o) [] vars e' e

-- in a typed state, what an instance of any rule but SPEC makes of a term acts as the term
abbrev pub InstanceActs : Type 0
InstanceActs =
    (p : Program) (made : List Made) (at : Spot) (r : Rule) (e e' : TermTree)
    → IsTypedState p made → AreTermTypes (setting_at (origins_in p made)) [] at.vars
    → (r ≡ Spec → ⊥) → HasInstance (origins_in p made) at r e e'
    → ActsWithOrigins (origins_in p made) at.vars e' e

-- after a step by such a rule the body of the made definition acts as before, both with the origins
-- of made definitions
abbrev pub StepActs : Type 0
StepActs =
    (p : Program) (made : List Made) (w : Where) (new : TermTree)
    → IsTypedState p made → (w.rule ≡ Spec → ⊥)
    → (step : HasStep p made w new)
    → ActsAs p step.it.ty
    (origin_of (origins_in p made) (with_part step.it.body w.path new))
    (origin_of (origins_in p made) step.it.body)

-- and it gives nothing that it didn't before
abbrev pub StepGives : Type 0
StepGives =
    (p : Program) (made : List Made) (w : Where) (new : TermTree)
    → IsTypedState p made → (w.rule ≡ Spec → ⊥)
    → (step : HasStep p made w new)
    → Better p step.it.ty
    (origin_of (origins_in p made) (with_part step.it.body w.path new))
    (origin_of (origins_in p made) step.it.body)

-- a typed closed term acts as it does with its closed naturals evaluated, and the other way round
abbrev pub EvaluatedActs : Type 0
EvaluatedActs =
    (p : Program) (e : TermTree) (t : TypeTree)
    → IsTidy p → IsTyped p → IsTermType (setting_of p) [] t → HasTypeUpTo (setting_of p) [] [] e t
    → ActsAs p t (evaluated_in e) e × ActsAs p t e (evaluated_in e)

-- a term under a lambda for each of its free variables, and on these variables, acts as the term
abbrev pub AbstractedActs : Type 0
AbstractedActs =
    (e : TermTree) (ts : List TypeTree)
    → length ts ≡ length (free_in e)
    → KeepsMeaning
    (applied
    (under_each ts (rename e (to_lambdas (free_in e))))
    (map (λ x. OfTerm (var x)) (free_in e)))
    e

-- closed terms of the type up to naturals, each of which acts as the next
pub data TypedChain (p : Program) (t : TypeTree) : TermTree → TermTree → Type 0 where
  typed_end : {e : TermTree} → HasTypeUpTo (setting_of p) [] [] e t → TypedChain p t e e
  typed_and : {c b a : TermTree}
      → HasTypeUpTo (setting_of p) [] [] c t → ActsAs p t c b → TypedChain p t b a
      → TypedChain p t c a

-- after a step by SPEC, with the origins of the made definitions that there are then, the body acts
-- by a chain as it did before
abbrev pub SpecialActs : Type 0
SpecialActs =
    (p : Program) (made with_new : List Made) (w : Where) (new : TermTree)
    → IsTypedState p made → IsTypedState p with_new → w.rule ≡ Spec
    → (step : HasStep p made w new)
    → After p made step.at step.term Spec with_new
    → TypedChain p step.it.ty
    (origin_of (origins_in p with_new) (with_part step.it.body w.path new))
    (origin_of (origins_in p made) step.it.body)
