-- What rules make of the name of a definition keeps types and complete terms.
use Rattle.std.proofs.Common.{◌≡◌, List, Some, [], map, subst, sym, ℕ}
use Rattle.std.specs.List.{slice_get}
use Rattle.chw_types.specs.SameTypes.{SameTypes}
use Rattle.chw_types.specs.TypeTree.{TypeTree}
use Rattle.chw_terms.specs.TermTree.{TermTree}
use Rattle.chw_terms.specs.declared.program.Def.{Def}
use Rattle.chw_terms.specs.declared.rule.Rule.{Rule}
use Rattle.chw_terms.specs.declared.scene.Scene.{Scene}
use Rattle.chw_typing.proofs.Lists.{found_before_map, found_in_map}
use Rattle.chw_typing.specs.Programs.{IsComplete, IsSound}
use Rattle.chw_typing.specs.Scopes.{Setting}
use Rattle.chw_typing.specs.Typing.{HasTypeUpTo, h_global, h_made}
use Rattle.chw_typing.proofs.Lowered.{closed_typed}
use Rattle.chw_typing.proofs.MoreMade.{typed_with_made}
use Rattle.rewriting.proofs.Settings.{setting_of_scene}
use Rattle.rewriting.specs.SceneLaws.{TypedSceneIsSound}
use Rattle.rewriting.specs.Origins.{MadeOf, Origins, made_of, origins_of, setting_at}
use Rattle.rewriting.specs.Typed.{IsTypedScene}
use Rattle.rewriting.specs.Spots.{Spot}
use Rattle.rewriting.specs.Names.{OfNames, unfold_global, unfold_made}
use Rattle.rule_types.specs.Laws.{AreTypedOrigins, IsTypedPlace, KeepsType}

-- a closed term in place of a name of its type
in_place : (s : Setting) (vars : List TypeTree) (e : TermTree) (t u : TypeTree) → IsSound s → HasTypeUpTo s [] [] e t → t ≡ u → HasTypeUpTo s [] vars e u
in_place s vars e t u h d is =
    record { type = d.type; has = closed_typed s [] vars e d.type h d.has; same = subst (λ v. SameTypes v d.type) is d.same }

pub names_keep : (o : Origins) (at : Spot) → AreTypedOrigins o → IsTypedPlace o at → {r : Rule} {e e' : TermTree} → OfNames o at r e e' → KeepsType o at e e'
names_keep o at w h (unfold_global {d = d} {it = it} no_lets is) t (h_global e) =
    let there = found_in_map (λ (d : Def). d.ty) o.program.defs d it is in
    in_place (setting_at o) at.vars it.body it.ty t h.sound (w.bodies d it is).0 cc
names_keep o at w h (unfold_made {m = m} {it = it} no_lets is) t (h_made e) =
    let there = found_in_map (λ (m : MadeOf). m.ty) o.made m it is in
    in_place (setting_at o) at.vars it.origin it.ty t h.sound (w.origins m it is).0 cc

pub names_keep_complete : (o : Origins) (at : Spot) → AreTypedOrigins o → {r : Rule} {e e' : TermTree} → OfNames o at r e e' → IsComplete o.program.datas e → IsComplete o.program.datas e'
names_keep_complete o at w (unfold_global {d = d} {it = it} no_lets is) h = (w.bodies d it is).1
names_keep_complete o at w (unfold_made {m = m} {it = it} no_lets is) h = (w.origins m it is).1

pub scene_origins : TypedSceneIsSound → (scene : Scene) → IsTypedScene scene → AreTypedOrigins (origins_of scene)
scene_origins law scene h = record { sound = subst IsSound (sym (setting_of_scene scene)) (law scene h); bodies = bodies; origins = origins }
  where
    o : Origins
    o = origins_of scene

    bodies : (d : ℕ) (it : Def) → slice_get o.program.defs d ≡ Some it → HasTypeUpTo (setting_at o) [] [] it.body it.ty × IsComplete o.program.datas it.body
    bodies d it is =
        let body = h.typed.bodies d it is in
        (record { type = body.type; has = typed_with_made body.has (map (λ (m : MadeOf). m.ty) o.made); same = body.same }, h.typed.complete d it is)

    origins : (m : ℕ) (it : MadeOf) → slice_get o.made m ≡ Some it → HasTypeUpTo (setting_at o) [] [] it.origin it.ty × IsComplete o.program.datas it.origin
    origins m it is =
        let at = found_before_map made_of scene.made.now m it is in
        let of = h.made m at.0 at.1 in
        subst (λ (it : MadeOf). HasTypeUpTo (setting_at o) [] [] it.origin it.ty × IsComplete o.program.datas it.origin) at.2 (of.origin_typed, of.origin_complete)
