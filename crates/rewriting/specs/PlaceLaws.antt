-- What is promised of active places.
use Rattle.std.specs.Prelude.{◌≡◌, ℕ, List, [], Some, slice_get}
use Rattle.chw_types.specs.declared.declarations.Data.{Data}
use Rattle.chw_types.specs.TypeTree.{TypeTree}
use Rattle.chw_terms.specs.declared.scene.Made.{Made}
use Rattle.chw_terms.specs.declared.scene.Scene.{Scene}
use Rattle.chw_terms.specs.TermTree.{TermTree}
use Rattle.chw_typing.specs.Scopes.{setting_in, AreTermTypes}
use Rattle.chw_typing.specs.Programs.{IsSound, IsComplete}
use Rattle.chw_typing.specs.Typing.{HasType, HasTypeUpTo}
use Rattle.chw_typing.specs.Around.{Around}
use Rattle.rewriting.specs.Origins.{MadeOf, Origins, made_of, origins_of, setting_at}
use Rattle.rewriting.specs.Typed.{IsTypedScene}
use Rattle.rewriting.specs.Active.{Below, IsActive, IsPlaceOf}
use Rattle.rewriting.specs.Spots.{Spot}

-- one step from a place to a path leads to one spot and one term
abbrev pub OneBelow : Type 0
OneBelow =
    (o : Origins) (at at' at'' : Spot) (e x y : TermTree) (p : List ℕ)
    → Below o at e p at' x → Below o at e p at'' y → (at' ≡ at'') × (x ≡ y)

-- so do all steps to a path
abbrev pub OneActive : Type 0
OneActive =
    (o : Origins) (at at' at'' : Spot) (e x y : TermTree) (p : List ℕ)
    → IsActive o at e p at' x → IsActive o at e p at'' y → (at' ≡ at'') × (x ≡ y)

-- and a path in a body leads to one active place
abbrev pub OnePlace : Type 0
OnePlace =
    (o : Origins) (it : MadeOf) (body x y : TermTree) (path : List ℕ) (at at' : Spot)
    → IsPlaceOf o it body path at x → IsPlaceOf o it body path at' y → (at ≡ at') × (x ≡ y)

-- what is below a place of a typed term is around it in the sense of typing, with the types of the
-- variables in scope there
abbrev pub BelowIsAround : Type 0
BelowIsAround =
    (o : Origins) (at at' : Spot) (e x : TermTree) (t : TypeTree) (p : List ℕ)
    → IsSound (setting_at o)
    → AreTermTypes (setting_at o) [] at.vars
    → HasType (setting_at o) [] at.vars e t
    → Below o at e p at' x
    → Around (setting_at o) [] at.vars e p [] at'.vars x

-- so at any number of steps
abbrev pub ActiveIsAround : Type 0
ActiveIsAround =
    (o : Origins) (at at' : Spot) (e x : TermTree) (t : TypeTree) (p : List ℕ)
    → IsSound (setting_at o)
    → AreTermTypes (setting_at o) [] at.vars
    → HasType (setting_at o) [] at.vars e t
    → IsActive o at e p at' x
    → Around (setting_at o) [] at.vars e p [] at'.vars x

-- what is at an active place has a type, in a scope of types that terms have
abbrev pub ActiveIsTyped : Type 0
ActiveIsTyped =
    (o : Origins) (at at' : Spot) (e x : TermTree) (t : TypeTree) (p : List ℕ)
    → IsSound (setting_at o)
    → AreTermTypes (setting_at o) [] at.vars
    → HasType (setting_at o) [] at.vars e t
    → IsActive o at e p at' x
    → AreTermTypes (setting_at o) [] at'.vars
    × ((u : TypeTree) × HasType (setting_at o) [] at'.vars x u)

-- an active place of a made definition is a place of its body
abbrev pub PlaceIsAround : Type 0
PlaceIsAround =
    (o : Origins) (it : MadeOf) (body x : TermTree) (path : List ℕ) (at : Spot)
    → IsSound (setting_at o)
    → HasTypeUpTo (setting_at o) [] [] body it.ty
    → IsPlaceOf o it body path at x
    → Around (setting_at o) [] [] body path [] at.vars x

-- what is at an active place of a complete term is complete
abbrev pub ActiveIsComplete : Type 0
ActiveIsComplete =
    (o : Origins) (at at' : Spot) (e x : TermTree) (p : List ℕ) (datas : List Data)
    → IsComplete datas e → IsActive o at e p at' x → IsComplete datas x

-- so at an active place of a made definition of a typed scene: what is there has a type in its
-- scope, and its cases are complete
abbrev pub PlaceOfSceneIsTyped : Type 0
PlaceOfSceneIsTyped =
    (scene : Scene) (m : ℕ) (it : Made) (path : List ℕ) (at : Spot) (x : TermTree)
    → IsTypedScene scene
    → slice_get scene.made.now m ≡ Some it
    → IsPlaceOf (origins_of scene) (made_of it) it.body path at x
    → AreTermTypes (setting_in scene) [] at.vars
    × ((u : TypeTree) × HasType (setting_in scene) [] at.vars x u)
    × IsComplete scene.program.now.datas x
