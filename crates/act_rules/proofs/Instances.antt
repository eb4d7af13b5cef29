-- The origins of a typed scene, and what an instance of a rule up to INLINE makes there.
use Rattle.std.proofs.Common.{[], map, arith}
use Rattle.chw_terms.specs.declared.rule.Rule.{Rule}
use Rattle.chw_terms.specs.declared.scene.Scene.{Scene}
use Rattle.chw_terms.specs.TermTree.{TermTree, made}
use Rattle.chw_typing.specs.Scopes.{setting_in, AreTermTypes}
use Rattle.chw_typing.specs.Programs.{AreClosed, setting_of}
use Rattle.chw_typing.specs.Typing.{h_made}
use Rattle.rewriting.specs.SceneLaws.{TypedSceneIsSound, OriginNeedsProgram}
use Rattle.rewriting.specs.Origins.{origins_of, origin_at, with_origins}
use Rattle.rewriting.specs.Typed.{IsTypedScene}
use Rattle.rewriting.specs.Spots.{Spot}
use Rattle.rewriting.specs.Calls.{spec_call, anf_call, anf_result}
use Rattle.rewriting.specs.Instances.{HasInstance, on_core, on_whole}
use Rattle.acts.specs.Terms.{OriginsTyped}
use Rattle.act_rules.specs.RuleLaws.{HasOrigins}
use Rattle.act_rules.specs.StepLaws.{IsUpToInline, MadeActs, SpineActs, ActsInScene}

scene_closed : TypedSceneIsSound → (scene : Scene) → IsTypedScene scene → AreClosed (setting_of scene.program.now) (map (λ m. m.ty) scene.made.now)
scene_closed sound scene h x t q = let of = (sound scene h).made x t q in record { kind = of.kind; has = of.has; of_terms = of.of_terms }

scene_typed : OriginNeedsProgram → (scene : Scene) → IsTypedScene scene → OriginsTyped scene.program.now (map (λ m. m.ty) scene.made.now) (origin_at (origins_of scene))
unfolding with_origins
scene_typed alone scene h m u q = alone scene [] [] (made m) u h tt (h_made q)

pub scene_origins : TypedSceneIsSound → OriginNeedsProgram → (scene : Scene) → IsTypedScene scene → HasOrigins scene.program.now (map (λ m. m.ty) scene.made.now) (origin_at (origins_of scene))
scene_origins sound alone scene h =
    record { tidy = h.tidy; typed = h.typed; closed = scene_closed sound scene h; have_types = scene_typed alone scene h }

pub instance_acts : MadeActs → SpineActs → TypedSceneIsSound → OriginNeedsProgram → (scene : Scene) (at : Spot) (r : Rule) (e e' : TermTree) → IsTypedScene scene → AreTermTypes (setting_in scene) [] at.vars → IsUpToInline r → HasInstance (origins_of scene) at r e e' → ActsInScene scene at.vars e' e
instance_acts made_law spine sound alone scene at r e e' h g i (on_core core core' rest m d) =
    let o = scene_origins sound alone scene h in
    let types = map (λ m. m.ty) scene.made.now in
    spine scene.program.now types (origin_at (origins_of scene)) [] at.vars core' core rest o g
    (λ u c. made_law (origins_of scene) at r core core' i m types (origin_at (origins_of scene)) [] at.vars u o g c)
instance_acts made_law spine sound alone scene at r e e' h g i (on_whole (spec_call l c n) d) = absurd (omega (arith, i))
instance_acts made_law spine sound alone scene at r e e' h g i (on_whole (anf_call c n) d) = absurd (omega (arith, i))
instance_acts made_law spine sound alone scene at r e e' h g i (on_whole (anf_result l k v w n c) d) = absurd (omega (arith, i))
