-- What is at an active place of a typed scene.
use Rattle.std.proofs.Common.{◌≡◌, ℕ, sym, subst, List, [], Some}
use Rattle.std.specs.List.{slice_get}
use Rattle.chw_types.specs.TypeTree.{TypeTree}
use Rattle.chw_terms.specs.declared.scene.Made.{Made}
use Rattle.chw_terms.specs.declared.scene.Scene.{Scene}
use Rattle.chw_terms.specs.TermTree.{TermTree}
use Rattle.chw_typing.specs.Laws.{TypedIsSound}
use Rattle.chw_typing.specs.Programs.{IsSound, IsComplete}
use Rattle.chw_typing.specs.Scopes.{setting_in, AreTermTypes}
use Rattle.chw_typing.specs.Typing.{HasType}
use Rattle.chw_typing.proofs.Complete.{part_complete}
use Rattle.chw_typing.proofs.ContextPlaces.{around_is_part}
use Rattle.chw_typing.proofs.Typed.{PartTyped, part_typed}
use Rattle.rewriting.specs.Origins.{made_of, origins_of, setting_at}
use Rattle.rewriting.specs.Typed.{IsTypedScene}
use Rattle.rewriting.proofs.Settings.{setting_of_scene, scene_sound}
use Rattle.rewriting.specs.Active.{IsPlaceOf}
use Rattle.rewriting.specs.Spots.{Spot}
use Rattle.rewriting.proofs.Around.{place_around}

pub scene_place : TypedIsSound → (scene : Scene) (m : ℕ) (it : Made) (path : List ℕ) (at : Spot) (x : TermTree) → IsTypedScene scene → slice_get scene.made.now m ≡ Some it → IsPlaceOf (origins_of scene) (made_of it) it.body path at x → AreTermTypes (setting_in scene) [] at.vars × ((u : TypeTree) × HasType (setting_in scene) [] at.vars x u) × IsComplete scene.program.now.datas x
scene_place law scene m it path at x h is r =
    let of = h.made m it is in
    let sound : IsSound (setting_at (origins_of scene)) = subst IsSound (sym (setting_of_scene scene)) (scene_sound law scene h) in
    let there = place_around (origins_of scene) (made_of it) it.body x path at sound of.body_typed r in
    let typed : PartTyped (setting_at (origins_of scene)) [] at.vars x = part_typed there sound tt of.body_typed.type of.body_typed.has in
    let moved = subst (λ s. PartTyped s [] at.vars x) (setting_of_scene scene) typed in
    (moved.0, moved.1, part_complete path scene.program.now.datas it.body x of.body_complete (around_is_part there))
