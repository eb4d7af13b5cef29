-- What is promised of scenes, and of the types that modes name.
use Rattle.std.specs.Prelude.{◌≡◌, ◌⊎◌, ℕ, List, [], Some, slice_get}
use Rattle.chw_types.specs.declared.kind.Kind.{Kind}
use Rattle.chw_types.specs.declared.kind.Kind.TheVariants.{Val, Cir}
use Rattle.chw_types.specs.declared.declarations.Data.{Data}
use Rattle.chw_types.specs.TypeTree.{TypeTree}
use Rattle.chw_types.specs.SameTypes.{SameTypes}
use Rattle.chw_terms.specs.declared.scene.Mode.{Mode}
use Rattle.chw_terms.specs.declared.scene.Mode.TheVariants.{V, C, HV, HC, K}
use Rattle.chw_terms.specs.declared.scene.Scene.{Scene}
use Rattle.chw_terms.specs.References.{DataRefers}
use Rattle.chw_terms.specs.TermTree.{TermTree}
use Rattle.graph_order.specs.References.{HasNoCycle}
use Rattle.chw_typing.specs.Scopes.{Setting, setting_in, HasKind, AreTermTypes}
use Rattle.chw_typing.specs.Programs.{IsSound, setting_of}
use Rattle.chw_typing.specs.Typing.{HasType, HasTypeUpTo}
use Rattle.rewriting.specs.Named.{IsNamed, UnderLambdas}
use Rattle.rewriting.specs.Origins.{origins_of, setting_at, with_origins, origin_of, HoldsNoMade}
use Rattle.rewriting.specs.Typed.{IsTypedScene}

-- terms are typed over the program and the types of made definitions, whatever their bodies
abbrev pub SettingOfScene : Type 0
SettingOfScene = (scene : Scene) → setting_at (origins_of scene) ≡ setting_in scene

-- what the laws of types ask of a setting holds of that of a typed scene
abbrev pub TypedSceneIsSound : Type 0
TypedSceneIsSound = (scene : Scene) → IsTypedScene scene → IsSound (setting_in scene)

-- closed types that are the same up to naturals are named in the same modes
abbrev pub SameKeepsNamed : Type 0
SameKeepsNamed =
    (s : Setting) (mode : Mode) (t u : TypeTree) (k : Kind) → IsSound s → HasKind s [] t k
    → SameTypes t u → IsNamed s.datas mode t → IsNamed s.datas mode u

-- the kind of the closed types that are named in a mode; in K there are none
abbrev pub IsKindOf : Mode → Kind → Type 0
IsKindOf V k = k ≡ Val
IsKindOf HV k = k ≡ Val
IsKindOf C k = k ≡ Cir
IsKindOf HC k = k ≡ Cir
IsKindOf K k = ⊥

-- values are named where values are built, and circuits where circuits are
abbrev pub NamedIsTermKind : Type 0
NamedIsTermKind =
    (s : Setting) (mode : Mode) (t : TypeTree) (k : Kind) → IsSound s → HasKind s [] t k
    → IsNamed s.datas mode t → IsKindOf mode k

-- where no data type leads back to itself, a type is named in a mode or it isn't
abbrev pub NamedIsDecided : Type 0
NamedIsDecided =
    (datas : List Data) (mode : Mode) (t : TypeTree) → HasNoCycle (DataRefers datas)
    → IsNamed datas mode t ⊎ (IsNamed datas mode t → ⊥)

-- the setting with made definitions of these types in place of its own
abbrev pub with_only_made : Setting → List TypeTree → Setting
with_only_made s types = record s { made = types }

-- the closed terms have the types of the first setting's made definitions, up to naturals, over the
-- second
abbrev pub AreOfMade : Setting → Setting → (ℕ → TermTree) → Type 0
AreOfMade s s' o =
    (m : ℕ) (u : TypeTree) → slice_get s.made m ≡ Some u → HasTypeUpTo s' [] [] (o m) u

-- a term keeps its type, up to naturals, where such a term is put for each made definition; these
-- terms may be typed over other made definitions, or over none
abbrev pub PutMadeKeepsType : Type 0
PutMadeKeepsType =
    (s : Setting) (types : List TypeTree) (o : ℕ → TermTree) (kinds : List Kind)
    (vars : List TypeTree) (e : TermTree) (t : TypeTree)
    → IsSound s → IsSound (with_only_made s types) → AreOfMade s (with_only_made s types) o
    → AreTermTypes s kinds vars → HasType s kinds vars e t
    → HasTypeUpTo (with_only_made s types) kinds vars (with_origins o e) t

-- a term in which no made definition occurs keeps its type, up to naturals, where there are none
abbrev pub NoMadeKeepsType : Type 0
NoMadeKeepsType =
    (s : Setting) (kinds : List Kind) (vars : List TypeTree) (e : TermTree) (t : TypeTree)
    → IsSound s → AreTermTypes s kinds vars → HoldsNoMade e → HasType s kinds vars e t
    → HasTypeUpTo (with_only_made s []) kinds vars e t

-- so a term of a typed scene with its made definitions replaced by their origins: it has its type
-- over the program alone
abbrev pub OriginNeedsProgram : Type 0
OriginNeedsProgram =
    (scene : Scene) (kinds : List Kind) (vars : List TypeTree) (e : TermTree) (t : TypeTree)
    → IsTypedScene scene → AreTermTypes (setting_in scene) kinds vars
    → HasType (setting_in scene) kinds vars e t
    → HasTypeUpTo (setting_of scene.program.now) kinds vars (origin_of (origins_of scene) e) t

-- and in the scene too
abbrev pub OriginKeepsType : Type 0
OriginKeepsType =
    (scene : Scene) (kinds : List Kind) (vars : List TypeTree) (e : TermTree) (t : TypeTree)
    → IsTypedScene scene → AreTermTypes (setting_in scene) kinds vars
    → HasType (setting_in scene) kinds vars e t
    → HasTypeUpTo (setting_in scene) kinds vars (origin_of (origins_of scene) e) t

-- below the leading lambdas there is one place: one path, one list of types and one term
abbrev pub OneUnderLambdas : Type 0
OneUnderLambdas =
    (vars vs vs' : List TypeTree) (e x x' : TermTree) (t : TypeTree) (p p' : List ℕ)
    → UnderLambdas vars e t p vs x → UnderLambdas vars e t p' vs' x'
    → (p ≡ p') × (vs ≡ vs') × (x ≡ x')
