-- What is promised of the term below the leading lambdas of a made definition.
use Rattle.std.specs.Prelude.{◌≡◌, ℕ, List, [], ◌∷◌, ◌++◌}
use Rattle.chw_types.specs.TypeTree.{TypeTree}
use Rattle.chw_terms.specs.TermTree.{TermTree, letrec, Group, bind, size_of}
use Rattle.chw_typing.specs.Groups.{joined}
use Rattle.chw_typing.specs.Paths.{with_part}
use Rattle.chw_typing.specs.Programs.{IsSound}
use Rattle.chw_typing.specs.Typing.{HasTypeUpTo}
use Rattle.rewriting.specs.Active.{IsActive, IsPlaceOf}
use Rattle.rewriting.specs.Origins.{MadeOf, Origins, setting_at}
use Rattle.rewriting.specs.Spots.{Spot}
use Rattle.letrec_steps.specs.Local.{IsTypedHere}
use Rattle.letrec_steps.specs.Tops.{IsTop}

-- each active place of the made definition is one of its top, at a path behind that of the top
abbrev pub PlacesAreBelowTop : Type 0
PlacesAreBelowTop =
    (o : Origins) (it : MadeOf) (body top x : TermTree) (q path : List ℕ) (at to : Spot)
    → IsTop it body q at top → IsPlaceOf o it body path to x
    → (r : List ℕ) × (path ≡ q ++ r) × IsActive o at top r to x

-- and each active place of the top is one of the made definition
abbrev pub BelowTopIsPlace : Type 0
BelowTopIsPlace =
    (o : Origins) (it : MadeOf) (body top x : TermTree) (q r : List ℕ) (at to : Spot)
    → IsTop it body q at top → IsActive o at top r to x → IsPlaceOf o it body (q ++ r) to x

-- the top of a typed body is typed
abbrev pub TopIsTyped : Type 0
TopIsTyped =
    (o : Origins) (it : MadeOf) (body top : TermTree) (q : List ℕ) (at : Spot)
    → IsSound (setting_at o) → HasTypeUpTo (setting_at o) [] [] body it.ty
    → IsTop it body q at top → IsTypedHere o at top

-- another term in its place is the top there, at the same spot
abbrev pub TopIsPut : Type 0
TopIsPut =
    (it : MadeOf) (body x y : TermTree) (q : List ℕ) (at : Spot)
    → IsTop it body q at x → IsTop it (with_part body q y) q at y

-- a term that is put below the top is put in the top
abbrev pub BelowTopIsPut : Type 0
BelowTopIsPut =
    (it : MadeOf) (body x y : TermTree) (q path : List ℕ) (at : Spot)
    → IsTop it body q at x
    → with_part body (q ++ path) y ≡ with_part body q (with_part x path y)

-- so a right side of a letrec that is the top
abbrev pub SideInTopIsPut : Type 0
SideInTopIsPut =
    (it : MadeOf) (body : TermTree) (q : List ℕ) (at : Spot) (front back : Group) (t : TypeTree)
    (x y e : TermTree)
    → IsTop it body q at (letrec (joined front (bind t x back)) e)
    → with_part body (q ++ size_of front ∷ []) y
    ≡ with_part body q (letrec (joined front (bind t y back)) e)
