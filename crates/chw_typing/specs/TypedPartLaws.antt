-- What is promised of the types of a term's parts.
use Rattle.std.specs.Prelude.{◌≡◌, ◌↔◌, ℕ, ◌<◌, Bool, true, false}
use Rattle.std.specs.Prelude.{List, [], ◌∷◌, ◌++◌, map, length, Some}
use Rattle.std.specs.List.{slice_get}
use Rattle.chw_types.specs.declared.kind.Kind.{Kind}
use Rattle.chw_types.specs.TypeTree.{TypeTree, fun, for_all}
use Rattle.chw_types.specs.TypeMoves.{Renaming, put as put_type}
use Rattle.chw_types.specs.Kinds.{HasFunctions}
use Rattle.chw_types.specs.SameTypes.{SameTypes}
use Rattle.chw_terms.specs.declared.scene.Scene.{Scene}
use Rattle.chw_terms.specs.TermTree.{TermTree, Group, Alts}
use Rattle.chw_terms.specs.TermMoves.{rename, rename_group, rename_alts}
use Rattle.chw_terms.specs.TermMoves.{Substitution, sub, sub_group}
use Rattle.chw_terms.specs.TermMoves.{lowered, in_place_of}
use Rattle.chw_terms.specs.Occurs.{occurs, occurs_group, occurs_alts}
use Rattle.chw_typing.specs.Scopes.{Setting, setting_in, HasKind, AreTermTypes}
use Rattle.chw_typing.specs.Laws.{PutsTerms}
use Rattle.chw_typing.specs.Programs.{IsSound, AreClosed}
use Rattle.chw_typing.specs.Typing.{HasType, HasTypeUpTo, AreBound, AllGive}
use Rattle.chw_typing.specs.Groups.{joined}

-- the variables that occur in a typed term are in scope
abbrev pub TypedInScope : Type 0
TypedInScope =
    (s : Setting) (kinds : List Kind) (vars : List TypeTree) (e : TermTree) (t : TypeTree) (x : ℕ)
    → HasType s kinds vars e t → occurs e x ≡ true → x < length vars

-- each variable for which the test holds goes to one of its type
abbrev pub RenamesWhere : (ℕ → Bool) → Renaming → List TypeTree → List TypeTree → Type 0
RenamesWhere P ρ vars vars' =
    (x : ℕ) (t : TypeTree)
    → P x ≡ true → slice_get vars x ≡ Some t → slice_get vars' (ρ x) ≡ Some t

-- the type is kept where each variable that occurs goes to one of its type
abbrev pub RenameOccurringKeepsType : Type 0
RenameOccurringKeepsType =
    (s : Setting) (kinds : List Kind) (vars vars' : List TypeTree) (e : TermTree) (t : TypeTree)
    (ρ : Renaming)
    → HasType s kinds vars e t
    → RenamesWhere (occurs e) ρ vars vars'
    → HasType s kinds vars' (rename e ρ) t

-- so the bindings of a group are kept
abbrev pub RenamedGroupKept : Type 0
RenamedGroupKept =
    (s : Setting) (kinds : List Kind) (vars vars' : List TypeTree) (k : Kind) (g : Group)
    (ρ : Renaming)
    → AreBound s kinds vars k g
    → RenamesWhere (occurs_group g) ρ vars vars'
    → AreBound s kinds vars' k (rename_group g ρ)

-- and alternatives
abbrev pub RenamedAltsKept : Type 0
RenamedAltsKept =
    (s : Setting) (kinds : List Kind) (vars vars' : List TypeTree) (u t : TypeTree) (alts : Alts)
    (ρ : Renaming)
    → AllGive s kinds vars u t alts
    → RenamesWhere (occurs_alts alts) ρ vars vars'
    → AllGive s kinds vars' u t (rename_alts alts ρ)

-- the type is kept where a variable that doesn't occur goes
abbrev pub LoweredKeepsType : Type 0
LoweredKeepsType =
    (s : Setting) (kinds : List Kind) (inner outer : List TypeTree) (u : TypeTree) (e : TermTree)
    (t : TypeTree)
    → occurs e (length inner) ≡ false
    → HasType s kinds (inner ++ u ∷ outer) e t
    → HasType s kinds (inner ++ outer) (rename e (lowered (length inner))) t

-- and, up to naturals, where a term that has the variable's type is put for it
abbrev pub InPlaceKeepsType : Type 0
InPlaceKeepsType =
    (s : Setting) (kinds : List Kind) (inner outer : List TypeTree) (u : TypeTree)
    (e a : TermTree) (t : TypeTree)
    → IsSound s
    → AreTermTypes s kinds (inner ++ u ∷ outer)
    → HasType s kinds (inner ++ u ∷ outer) e t
    → HasTypeUpTo s kinds (inner ++ outer) a u
    → HasTypeUpTo s kinds (inner ++ outer) (sub e (in_place_of (length inner) a)) t

-- such a putting has for each variable a term of its type
abbrev pub InPlacePutsTerms : Type 0
InPlacePutsTerms =
    (s : Setting) (kinds : List Kind) (inner outer : List TypeTree) (u : TypeTree) (a : TermTree)
    → HasTypeUpTo s kinds (inner ++ outer) a u
    → PutsTerms s kinds (in_place_of (length inner) a) (inner ++ u ∷ outer) (inner ++ outer)

-- the bindings of a group are kept where terms of the variables' types are put for them
abbrev pub PutGroupKept : Type 0
PutGroupKept =
    (s : Setting) (kinds : List Kind) (vars vars' : List TypeTree) (k : Kind) (g : Group)
    (σ : Substitution)
    → IsSound s
    → AreTermTypes s kinds vars
    → AreTermTypes s kinds vars'
    → AreBound s kinds vars k g
    → PutsTerms s kinds σ vars vars'
    → AreBound s kinds vars' k (sub_group g σ)

-- a term in which no variable occurs has its type wherever variables have other types
abbrev pub ClosedTermsMove : Type 0
ClosedTermsMove =
    (s : Setting) (kinds : List Kind) (vars vars' : List TypeTree) (e : TermTree) (t : TypeTree)
    → ((x : ℕ) → occurs e x ≡ false) → HasType s kinds vars e t → HasType s kinds vars' e t

-- and what is typed without variables and type variables has its type in every scope
abbrev pub ClosedKeepsType : Type 0
ClosedKeepsType =
    (s : Setting) (kinds : List Kind) (vars : List TypeTree) (e : TermTree) (t : TypeTree)
    → IsSound s → HasType s [] [] e t → HasType s kinds vars e t

-- the bindings of two groups that are joined are typed where those of both are
abbrev pub GroupsJoin : Type 0
GroupsJoin =
    (s : Setting) (kinds : List Kind) (vars : List TypeTree) (k : Kind) (g h : Group)
    → AreBound s kinds vars k (joined g h)
    ↔ (AreBound s kinds vars k g × AreBound s kinds vars k h)

-- alternatives are typed also where the scrutinee has another type that is the same up to
-- naturals, and so may be the type of the whole
abbrev pub SameTypesKeepAlternatives : Type 0
SameTypesKeepAlternatives =
    (s : Setting) (kinds : List Kind) (vars : List TypeTree) (u v t w : TypeTree) (j : Kind)
    (alts : Alts)
    → IsSound s
    → HasKind s kinds u j
    → SameTypes u v
    → SameTypes t w
    → AllGive s kinds vars u t alts
    → AllGive s kinds vars v w alts

-- the setting with more made definitions, of these types
abbrev pub with_made : Setting → List TypeTree → Setting
with_made s more = record s { made = s.made ++ more }

-- more made definitions keep types
abbrev pub MoreMadeKeepsType : Type 0
MoreMadeKeepsType =
    (s : Setting) (more : List TypeTree) (kinds : List Kind) (vars : List TypeTree)
    (e : TermTree) (t : TypeTree)
    → HasType s kinds vars e t → HasType (with_made s more) kinds vars e t

-- and types of terms
abbrev pub MoreMadeKeepsTermTypes : Type 0
MoreMadeKeepsTermTypes =
    (s : Setting) (more : List TypeTree) (kinds : List Kind) (ts : List TypeTree)
    → AreTermTypes s kinds ts → AreTermTypes (with_made s more) kinds ts

-- and they keep the setting sound, where their types are types of terms
abbrev pub MoreMadeIsSound : Type 0
MoreMadeIsSound =
    (s : Setting) (more : List TypeTree)
    → IsSound s → AreClosed s more → IsSound (with_made s more)

-- of the made definitions of a scene only the types matter
abbrev pub BodiesDontMatter : Type 0
BodiesDontMatter =
    (scene scene' : Scene)
    → scene.program.now ≡ scene'.program.now
    → map (λ m. m.ty) scene.made.now ≡ map (λ m. m.ty) scene'.made.now
    → setting_in scene ≡ setting_in scene'

-- what allows a kind allows what that allows, as a function's parameter does its result
abbrev pub FunctionsCompose : Type 0
FunctionsCompose = (i j k : Kind) → HasFunctions i j → HasFunctions j k → HasFunctions i k

-- the result of a function has the function's kind
abbrev pub AppliedKeepsKind : Type 0
AppliedKeepsKind =
    (s : Setting) (kinds : List Kind) (a b : TypeTree) (k : Kind)
    → HasKind s kinds (fun a b) k → HasKind s kinds b k

-- a type into which an argument was put has, up to naturals, no other kind than before
abbrev pub TypeAppliedKeepsKind : Type 0
TypeAppliedKeepsKind =
    (s : Setting) (kinds : List Kind) (t a u : TypeTree) (i j k : Kind)
    → HasKind s kinds (for_all j t) k
    → HasKind s kinds a j
    → SameTypes (put_type t 0 a) u
    → HasKind s kinds u i
    → i ≡ k
