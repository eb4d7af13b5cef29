-- What is promised of the rules up to INLINE: what they make acts as the term, in place.
use Rattle.std.specs.Prelude.{◌≤◌, ℕ, List, [], map}
use Rattle.chw_types.specs.declared.kind.Kind.{Kind}
use Rattle.chw_types.specs.TypeTree.{TypeTree}
use Rattle.chw_terms.specs.declared.program.Program.{Program}
use Rattle.chw_terms.specs.declared.rule.Rule.{Rule}
use Rattle.chw_terms.specs.declared.scene.Scene.{Scene}
use Rattle.chw_terms.specs.declared.term.Arg.{Arg}
use Rattle.chw_terms.specs.TermTree.{TermTree}
use Rattle.chw_terms.specs.TermView.{applied}
use Rattle.chw_typing.specs.Scopes.{setting_in, AreTermTypes}
use Rattle.chw_meaning.specs.Gives.{Better}
use Rattle.chw_typing.specs.Paths.{with_part}
use Rattle.rewriting.specs.Origins.{Origins, origins_of, origin_at, origin_of}
use Rattle.rewriting.specs.Typed.{IsTypedScene}
use Rattle.rewriting.specs.Spots.{Spot}
use Rattle.rewriting.specs.Instances.{Makes, HasInstance}
use Rattle.rewriting.specs.Steps.{number_of, Where, HasStep}
use Rattle.acts.specs.Terms.{ActsAs, setting_with}
use Rattle.act_rules.specs.RuleLaws.{HasOrigins}
use Rattle.act_rules.specs.CaseLaws.{KeepsMeaningIn}
use Rattle.act_rules.specs.ContextLaws.{ActsAtTypes}

-- one of the rules TYBETA to INLINE, which are those on functions, on cases, on primitives with a
-- demanded argument, and on letrecs
abbrev pub IsUpToInline : Rule → Type 0
IsUpToInline r = number_of r ≤ 13

-- what such a rule makes of its own shape keeps its meaning
abbrev pub MadeActs : Type 0
MadeActs =
    (o : Origins) (at : Spot) (r : Rule) (core core' : TermTree)
    → IsUpToInline r → Makes o at r core core' → KeepsMeaningIn o.program core' core

-- a term that acts as another at each type of that one does so with further arguments on both
abbrev pub SpineActs : Type 0
SpineActs =
    (p : Program) (types : List TypeTree) (o : ℕ → TermTree)
    (kinds : List Kind) (vars : List TypeTree) (core' core : TermTree) (rest : List Arg)
    → HasOrigins p types o → AreTermTypes (setting_with p types) kinds vars
    → ActsAtTypes p types o kinds vars core' core
    → ActsAtTypes p types o kinds vars (applied core' rest) (applied core rest)

-- in a typed scene, the first term acts as the second at each type of the second, both with the
-- origins of made definitions
abbrev pub ActsInScene : Scene → List TypeTree → TermTree → TermTree → Type 0
ActsInScene scene vars e' e =
    ActsAtTypes
    scene.program.now (map (λ m. m.ty) scene.made.now) (origin_at (origins_of scene)) [] vars e' e

-- there, what an instance of such a rule makes of a term acts as the term
abbrev pub InstanceActs : Type 0
InstanceActs =
    (scene : Scene) (at : Spot) (r : Rule) (e e' : TermTree)
    → IsTypedScene scene → AreTermTypes (setting_in scene) [] at.vars
    → IsUpToInline r → HasInstance (origins_of scene) at r e e'
    → ActsInScene scene at.vars e' e

-- after a step by such a rule in a typed scene, the body of the made definition acts as before,
-- both with the origins of made definitions
abbrev pub StepActs : Type 0
StepActs =
    (scene : Scene) (w : Where) (new : TermTree)
    → IsTypedScene scene → IsUpToInline w.rule
    → (step : HasStep scene.program.now scene.made.now w new)
    → ActsAs scene.program.now step.it.ty
    (origin_of (origins_of scene) (with_part step.it.body w.path new))
    (origin_of (origins_of scene) step.it.body)

-- and it gives nothing that it didn't before
abbrev pub StepGives : Type 0
StepGives =
    (scene : Scene) (w : Where) (new : TermTree)
    → IsTypedScene scene → IsUpToInline w.rule
    → (step : HasStep scene.program.now scene.made.now w new)
    → Better scene.program.now step.it.ty
    (origin_of (origins_of scene) (with_part step.it.body w.path new))
    (origin_of (origins_of scene) step.it.body)
