-- The setting of a scene, that it is sound where the scene is typed, and that origins have their types there.
use Rattle.std.proofs.Common.{◌≡◌, ℕ, suc, zero, refl, sym, ap, ◌∙◌, subst, List, [], ◌∷◌, map, Some}
use Rattle.std.specs.Prelude.{option_map, unwrap_or}
use Rattle.std.specs.List.{slice_get}
use Rattle.chw_types.specs.declared.kind.Kind.{Kind}
use Rattle.chw_types.specs.TypeTree.{TypeTree}
use Rattle.chw_types.proofs.SameLaws.{same_through}
use Rattle.chw_terms.specs.declared.scene.Made.{Made}
use Rattle.chw_terms.specs.declared.scene.Scene.{Scene}
use Rattle.chw_terms.specs.TermTree.{TermTree, made}
use Rattle.chw_typing.specs.Scopes.{Setting, setting_in, IsTermType, AreTermTypes}
use Rattle.chw_typing.specs.Programs.{IsSound, AreClosed, setting_of}
use Rattle.chw_typing.specs.Typing.{HasType, HasTypeUpTo}
use Rattle.chw_typing.specs.Laws.{TypedIsSound}
use Rattle.chw_typing.proofs.MoreMade.{sound_with_made, typed_with_made}
use Rattle.rewriting.specs.SceneLaws.{with_only_made, AreOfMade}
use Rattle.rewriting.specs.Origins.{MadeOf, made_of, origins_of, setting_at, origin_at, origin_of}
use Rattle.rewriting.specs.Typed.{IsTypedScene}
use Rattle.rewriting.proofs.NoMade.{no_made_typed}
use Rattle.rewriting.proofs.PutMade.{made_put}

types_kept : (ms : List Made) → map (λ (m : MadeOf). m.ty) (map made_of ms) ≡ map (λ (m : Made). m.ty) ms
types_kept [] = refl
types_kept (m ∷ ms) = ap (λ ts. m.ty ∷ ts) (types_kept ms)

pub setting_of_scene : (scene : Scene) → setting_at (origins_of scene) ≡ setting_in scene
setting_of_scene scene = ap (λ ts. record s { made = ts }) (types_kept scene.made.now)
  where
    s : Setting
    s = setting_in scene

-- a type of a made definition is that of one of them
record MadeFound (ms : List Made) (m : ℕ) (t : TypeTree) : Type 0 where
  of : Made
  is : slice_get ms m ≡ Some of
  has : of.ty ≡ t

made_found : (ms : List Made) (m : ℕ) (t : TypeTree) → slice_get (map (λ (m : Made). m.ty) ms) m ≡ Some t → MadeFound ms m t
made_found [] m t e = absurd cc
made_found (x ∷ ms) zero t e = record { of = x; is = refl; has = cc }
made_found (x ∷ ms) (suc m) t e = let more = made_found ms m t e in record { of = more.of; is = more.is; has = more.has }

pub scene_sound : TypedIsSound → (scene : Scene) → IsTypedScene scene → IsSound (setting_in scene)
scene_sound law scene h = sound_with_made (setting_of scene.program.now) (map (λ (m : Made). m.ty) scene.made.now) (law scene.program.now h.tidy h.typed) closed
  where
    closed : AreClosed (setting_of scene.program.now) (map (λ (m : Made). m.ty) scene.made.now)
    closed m t e =
        let at = made_found scene.made.now m t e in
        let of = (h.made m at.of at.is).closed in
        subst (IsTermType (setting_of scene.program.now) []) at.has (record { kind = of.kind; has = of.has; of_terms = of.of_terms })

origin_found : (o : List MadeOf) (ms : List Made) (m : ℕ) (of : Made) → o ≡ map made_of ms → slice_get ms m ≡ Some of → option_map (λ (it : MadeOf). it.origin) (slice_get o m) ≡ Some of.origin
origin_found o ms m of is e = ap (λ o. option_map (λ (it : MadeOf). it.origin) (slice_get o m)) is ∙ found ms m e
  where
    found : (ms : List Made) (m : ℕ) → slice_get ms m ≡ Some of → option_map (λ (it : MadeOf). it.origin) (slice_get (map made_of ms) m) ≡ Some of.origin
    found [] m e = absurd cc
    found (x ∷ ms) zero e = let same : x ≡ of = cc in ap (λ (y : Made). Some y.origin) same
    found (x ∷ ms) (suc m) e = found ms m e

-- the origins of a typed scene have the types of the made definitions, over the program alone
origins_of_made : TypedIsSound → (scene : Scene) → IsTypedScene scene → AreOfMade (setting_in scene) (with_only_made (setting_in scene) []) (origin_at (origins_of scene))
origins_of_made law scene h m t e =
    let at = made_found scene.made.now m t e in
    let it = h.made m at.of at.is in
    let typed = subst (λ s. HasTypeUpTo s [] [] at.of.origin at.of.ty) (setting_of_scene scene) it.origin_typed in
    let alone = no_made_typed (setting_in scene) [] [] at.of.origin typed.type (scene_sound law scene h) tt it.no_made typed.has in
    let of : HasTypeUpTo (setting_of scene.program.now) [] [] at.of.origin at.of.ty = record { type = alone.type; has = alone.has; same = same_through typed.same alone.same } in
    let same : origin_at (origins_of scene) m ≡ at.of.origin = origin_is at.of at.is in
    subst (λ (e : TermTree). HasTypeUpTo (setting_of scene.program.now) [] [] e t) (sym same) (subst (HasTypeUpTo (setting_of scene.program.now) [] [] at.of.origin) at.has of)
  where
    origin_is : (of : Made) → slice_get scene.made.now m ≡ Some of → origin_at (origins_of scene) m ≡ of.origin
    origin_is of is = ap (λ x. unwrap_or x (made m)) (origin_found (map made_of scene.made.now) scene.made.now m of refl is)

pub origin_alone : TypedIsSound → (scene : Scene) (kinds : List Kind) (vars : List TypeTree) (e : TermTree) (t : TypeTree) → IsTypedScene scene → AreTermTypes (setting_in scene) kinds vars → HasType (setting_in scene) kinds vars e t → HasTypeUpTo (setting_of scene.program.now) kinds vars (origin_of (origins_of scene) e) t
origin_alone law scene kinds vars e t h g d =
    made_put d (scene_sound law scene h) [] (law scene.program.now h.tidy h.typed) (origin_at (origins_of scene)) (origins_of_made law scene h) g

pub origin_typed : TypedIsSound → (scene : Scene) (kinds : List Kind) (vars : List TypeTree) (e : TermTree) (t : TypeTree) → IsTypedScene scene → AreTermTypes (setting_in scene) kinds vars → HasType (setting_in scene) kinds vars e t → HasTypeUpTo (setting_in scene) kinds vars (origin_of (origins_of scene) e) t
origin_typed law scene kinds vars e t h g d =
    let of = origin_alone law scene kinds vars e t h g d in
    record { type = of.type; has = typed_with_made of.has (map (λ (m : Made). m.ty) scene.made.now); same = of.same }
