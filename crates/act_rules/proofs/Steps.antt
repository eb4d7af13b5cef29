-- The body of a made definition with what a rule up to INLINE makes in its place.
use Rattle.std.specs.Prelude.{slice_get}
use Rattle.std.proofs.Common.{◌≡◌, ℕ, List, [], map, Some, subst, sym}
use Rattle.chw_types.specs.TypeTree.{TypeTree}
use Rattle.chw_types.proofs.SameLaws.{same_turned}
use Rattle.chw_terms.specs.declared.program.Program.{Program}
use Rattle.chw_terms.specs.declared.scene.Made.{Made}
use Rattle.chw_terms.specs.declared.scene.Scene.{Scene}
use Rattle.chw_typing.specs.Laws.{TypedIsSound}
use Rattle.chw_typing.specs.Scopes.{setting_in, IsTermType}
use Rattle.chw_typing.specs.Programs.{IsSound, setting_of}
use Rattle.chw_typing.specs.Typing.{HasTypeUpTo}
use Rattle.chw_typing.proofs.Kinded.{type_kinded}
use Rattle.chw_typing.specs.Paths.{with_part}
use Rattle.chw_typing.specs.Around.{Around}
use Rattle.rewriting.specs.SceneLaws.{SettingOfScene, TypedSceneIsSound, OriginNeedsProgram}
use Rattle.rewriting.specs.Origins.{made_of, origins_of, origin_at, origin_of, setting_at}
use Rattle.rewriting.specs.Typed.{IsTypedScene}
use Rattle.rewriting.specs.PlaceLaws.{PlaceIsAround, PlaceOfSceneIsTyped}
use Rattle.rewriting.specs.Spots.{Spot}
use Rattle.acts.specs.Levels.{term_runs, term_has}
use Rattle.acts.specs.Laws.{ActsGives}
use Rattle.acts.proofs.Closing.{closed_same}
use Rattle.acts.proofs.Levels.{from_turns}
use Rattle.acts.proofs.SameActs.{same_acts}
use Rattle.act_rules.specs.ContextLaws.{PlugActs}
use Rattle.act_rules.specs.StepLaws.{InstanceActs, StepActs, StepGives}
use Rattle.act_rules.proofs.Instances.{scene_origins}

-- the laws on which this stands
pub record StepLaws : Type 0 where
  pub typed_sound : TypedIsSound
  pub setting : SettingOfScene
  pub sound : TypedSceneIsSound
  pub alone : OriginNeedsProgram
  pub around : PlaceIsAround
  pub place : PlaceOfSceneIsTyped
  pub plug : PlugActs
  pub instance : InstanceActs
  pub acts_give : ActsGives

-- the declared type is one that terms have, over the program alone
declared_kind : (scene : Scene) → IsTypedScene scene → (m : ℕ) (it : Made) → slice_get scene.made.now m ≡ Some it → IsTermType (setting_of scene.program.now) [] it.ty
declared_kind scene h m it is = let of = (h.made m it is).closed in record { kind = of.kind; has = of.has; of_terms = of.of_terms }

pub step_acts : StepLaws → StepActs
step_acts l scene w new h i step n δ γ' γ known names =
    let p : Program = scene.program.now in
    let it : Made = step.it in
    let at : Spot = step.at in
    let types : List TypeTree = map (λ m. m.ty) scene.made.now in
    let o = origin_at (origins_of scene) in
    let origins = scene_origins l.sound l.alone scene h in
    let same = l.setting scene in
    let full = l.sound scene h in
    let body : HasTypeUpTo (setting_at (origins_of scene)) [] [] it.body it.ty = (h.made w.number it step.is).body_typed in
    let there : Around (setting_at (origins_of scene)) [] [] it.body w.path [] at.vars step.term =
    l.around (origins_of scene) (made_of it) it.body step.term w.path at (subst IsSound (sym same) full) body step.place in
    let around : Around (setting_in scene) [] [] it.body w.path [] at.vars step.term = subst (λ s. Around s [] [] it.body w.path [] at.vars step.term) same there in
    let has : HasTypeUpTo (setting_in scene) [] [] it.body it.ty = subst (λ s. HasTypeUpTo s [] [] it.body it.ty) same body in
    let in_scope = (l.place scene w.number it w.path at step.term h step.is step.place).0 in
    let part = l.instance scene at w.rule step.term new h in_scope i step.made_new in
    let whole = l.plug p types o [] [] [] at.vars it.body new step.term has.type w.path h.tidy h.typed origins.closed origins.have_types tt has.has around part in
    let sound = l.typed_sound p h.tidy h.typed in
    let kind = declared_kind scene h w.number it step.is in
    same_acts sound (from_turns p n) (closed_same p sound δ known (type_kinded has.has full tt).has kind.has (same_turned has.same))
    (term_runs p (origin_of (origins_of scene) (with_part it.body w.path new)) γ' δ) (term_has p (origin_of (origins_of scene) it.body) γ δ) (whole n δ γ' γ known names)

pub step_gives : StepLaws → StepGives
step_gives l scene w new h i step =
    let of = declared_kind scene h w.number step.it step.is in
    l.acts_give scene.program.now step.it.ty of.kind (origin_of (origins_of scene) (with_part step.it.body w.path new)) (origin_of (origins_of scene) step.it.body) h.tidy h.typed of.has (step_acts l scene w new h i step)
