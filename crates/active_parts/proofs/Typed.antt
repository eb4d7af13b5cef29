-- What is below a typed term is typed.
use Rattle.std.proofs.Common.{ℕ, sym, subst, List, []}
use Rattle.chw_terms.specs.declared.scene.Scene.{Scene}
use Rattle.chw_terms.specs.TermTree.{TermTree}
use Rattle.chw_typing.specs.Programs.{IsSound}
use Rattle.chw_typing.specs.Scopes.{setting_in}
use Rattle.rewriting.specs.Origins.{origins_of, setting_at}
use Rattle.rewriting.proofs.Settings.{setting_of_scene}
use Rattle.rewriting.specs.Active.{Below}
use Rattle.rewriting.specs.Spots.{Spot}
use Rattle.rewriting.proofs.Around.{below_around}
use Rattle.chw_typing.proofs.Typed.{PartTyped, part_typed}
use Rattle.active_parts.specs.Grounds.{IsTypedAt}

pub below_typed : (scene : Scene) (at : Spot) (e : TermTree) → IsSound (setting_in scene) → IsTypedAt (setting_in scene) at e → (p : List ℕ) (at' : Spot) (x : TermTree) → Below (origins_of scene) at e p at' x → IsTypedAt (setting_in scene) at' x
below_typed scene at e sound typed p at' x b =
    let o = origins_of scene in
    let is = sym (setting_of_scene scene) in
    let s : IsSound (setting_at o) = subst IsSound is sound in
    let t : IsTypedAt (setting_at o) at e = subst (λ z. IsTypedAt z at e) is typed in
    let part : PartTyped (setting_at o) [] at'.vars x = part_typed (below_around b s t.0) s t.0 t.1.0 t.1.1 in
    subst (λ z. IsTypedAt z at' x) (setting_of_scene scene) part
