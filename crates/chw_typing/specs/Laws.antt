-- What is promised of the types of terms.
use Rattle.std.specs.Prelude.{◌≡◌, ℕ, ◌≤◌, List, [], ◌∷◌, ◌++◌, map, length, Some}
use Rattle.std.specs.List.{slice_get}
use Rattle.chw_types.specs.declared.kind.Kind.{Kind}
use Rattle.chw_types.specs.TypeTree.{TypeTree}
use Rattle.chw_types.specs.TypeMoves.{Renaming, rename as rename_type, Substitution as TypeSubstitution, sub as sub_type, put as put_type}
use Rattle.chw_types.specs.Kinds.{degree}
use Rattle.chw_types.specs.SameTypes.{SameTypes}
use Rattle.chw_terms.specs.declared.program.Program.{Program}
use Rattle.chw_terms.specs.declared.term.Pattern.{Pattern}
use Rattle.chw_terms.specs.Tidy.{IsTidy}
use Rattle.chw_terms.specs.TermTree.{TermTree}
use Rattle.chw_terms.specs.TermMoves.{rename, shift, Substitution, sub, put}
use Rattle.chw_terms.specs.TypesMoved.{rename_types, sub_types, put_types}
use Rattle.chw_terms.specs.Evaluated.{evaluated_in, put_type_in}
use Rattle.chw_typing.specs.Scopes.{Setting, HasKind, IsTermType, AreTermTypes, AreSame}
use Rattle.chw_typing.specs.Typing.{Binds, HasType, HasTypeUpTo}
use Rattle.chw_typing.specs.Programs.{IsSound, IsTyped, setting_of}

-- a term has at most one type, up to naturals
abbrev pub OneType : Type 0
OneType =
    (s : Setting) (kinds : List Kind) (vars : List TypeTree) (e : TermTree) (t u : TypeTree) → IsSound s → AreTermTypes s kinds vars → HasType s kinds vars e t → HasType s kinds vars e u → SameTypes t u

-- what the laws below ask of the setting holds of every program that is tidy and typed
abbrev pub TypedIsSound : Type 0
TypedIsSound = (p : Program) → IsTidy p → IsTyped p → IsSound (setting_of p)

-- the type of a term is one that terms have
abbrev pub TypesAreTermTypes : Type 0
TypesAreTermTypes =
    (s : Setting) (kinds : List Kind) (vars : List TypeTree) (e : TermTree) (t : TypeTree) → IsSound s → AreTermTypes s kinds vars → HasType s kinds vars e t → IsTermType s kinds t

-- the type is kept, up to naturals, where the types of the variables are the same up to naturals
abbrev pub SameVariablesKeepType : Type 0
SameVariablesKeepType =
    (s : Setting) (kinds : List Kind) (vars vars' : List TypeTree) (e : TermTree) (t : TypeTree) → IsSound s → AreTermTypes s kinds vars → AreTermTypes s kinds vars' → AreSame vars vars' → HasType s kinds vars e t
    → HasTypeUpTo s kinds vars' e t

-- a pattern for values of a type is one for values of each type that is the same up to naturals, and may bind the same types
abbrev pub SameTypesKeepPattern : Type 0
SameTypesKeepPattern =
    (s : Setting) (kinds : List Kind) (u v : TypeTree) (q : Pattern) (bound : List TypeTree) (j : Kind) → IsSound s → HasKind s kinds u j → SameTypes u v → Binds s kinds u q bound → Binds s kinds v q bound

-- what a pattern binds is determined up to naturals
abbrev pub OneBinding : Type 0
OneBinding =
    (s : Setting) (kinds : List Kind) (u : TypeTree) (q : Pattern) (bound bound' : List TypeTree) (j : Kind) → IsSound s → HasKind s kinds u j → Binds s kinds u q bound → Binds s kinds u q bound' → AreSame bound bound'

-- each variable goes to one of its type
abbrev pub Renames : Renaming → List TypeTree → List TypeTree → Type 0
Renames ρ vars vars' = (x : ℕ) (t : TypeTree) → slice_get vars x ≡ Some t → slice_get vars' (ρ x) ≡ Some t

-- the type is kept where variables are renamed
abbrev pub RenameKeepsType : Type 0
RenameKeepsType =
    (s : Setting) (kinds : List Kind) (vars vars' : List TypeTree) (e : TermTree) (t : TypeTree) (ρ : Renaming) → HasType s kinds vars e t → Renames ρ vars vars' → HasType s kinds vars' (rename e ρ) t

-- so by a shift: more variables in scope, at any place, keep the type
abbrev pub ShiftKeepsType : Type 0
ShiftKeepsType =
    (s : Setting) (kinds : List Kind) (inner new outer : List TypeTree) (e : TermTree) (t : TypeTree) → HasType s kinds (inner ++ outer) e t → HasType s kinds (inner ++ new ++ outer) (shift e (length inner) (length new)) t

-- each type variable goes to one of its kind
abbrev pub RenamesKinds : Renaming → List Kind → List Kind → Type 0
RenamesKinds ρ kinds kinds' = (x : ℕ) (k : Kind) → slice_get kinds x ≡ Some k → slice_get kinds' (ρ x) ≡ Some k

-- what is typed stays so where type variables are renamed, in the variables' types too
abbrev pub RenameTypesKeepsType : Type 0
RenameTypesKeepsType =
    (s : Setting) (kinds kinds' : List Kind) (vars : List TypeTree) (e : TermTree) (t : TypeTree) (ρ : Renaming) → IsSound s → AreTermTypes s kinds vars → HasType s kinds vars e t → RenamesKinds ρ kinds kinds'
    → HasType s kinds' (map (λ u. rename_type u ρ) vars) (rename_types e ρ) (rename_type t ρ)

-- for each type variable a type of its kind, of degree at most 1: so a closed type, a variable or a numeral
abbrev pub PutsTypes : Setting → TypeSubstitution → List Kind → List Kind → Type 0
PutsTypes s σ kinds kinds' = (x : ℕ) (k : Kind) → slice_get kinds x ≡ Some k → HasKind s kinds' (σ x) k × (degree (σ x) ≤ 1)

-- what is typed stays so where such types are put for the type variables
abbrev pub PutTypesKeepsType : Type 0
PutTypesKeepsType =
    (s : Setting) (kinds kinds' : List Kind) (vars : List TypeTree) (e : TermTree) (t : TypeTree) (σ : TypeSubstitution) → IsSound s → AreTermTypes s kinds vars → HasType s kinds vars e t → PutsTypes s σ kinds kinds'
    → HasType s kinds' (map (λ u. sub_type u σ) vars) (sub_types e σ) (sub_type t σ)

-- so where a closed type of the variable's kind is put for one type variable
abbrev pub PutClosedTypeKeepsType : Type 0
PutClosedTypeKeepsType =
    (s : Setting) (inner outer : List Kind) (vars : List TypeTree) (e : TermTree) (t a : TypeTree) (j : Kind) → IsSound s → AreTermTypes s (inner ++ j ∷ outer) vars → HasType s (inner ++ j ∷ outer) vars e t → HasKind s [] a j
    → HasType s (inner ++ outer) (map (λ u. put_type u (length inner) a) vars) (put_types e (length inner) a) (put_type t (length inner) a)

-- for each variable a term that has its type up to naturals
abbrev pub PutsTerms : Setting → List Kind → Substitution → List TypeTree → List TypeTree → Type 0
PutsTerms s kinds σ vars vars' = (x : ℕ) (t : TypeTree) → slice_get vars x ≡ Some t → HasTypeUpTo s kinds vars' (σ x) t

-- the type is kept, up to naturals, where such terms are put for the variables
abbrev pub PuttingAllKeepsType : Type 0
PuttingAllKeepsType =
    (s : Setting) (kinds : List Kind) (vars vars' : List TypeTree) (e : TermTree) (t : TypeTree) (σ : Substitution) → IsSound s → AreTermTypes s kinds vars → AreTermTypes s kinds vars' → HasType s kinds vars e t → PutsTerms s kinds σ vars vars'
    → HasTypeUpTo s kinds vars' (sub e σ) t

-- so where such a term is put for one variable
abbrev pub PutKeepsType : Type 0
PutKeepsType =
    (s : Setting) (kinds : List Kind) (inner outer : List TypeTree) (e a : TermTree) (t u : TypeTree) → IsSound s → AreTermTypes s kinds (inner ++ u ∷ outer) → HasType s kinds (inner ++ u ∷ outer) e t → HasTypeUpTo s kinds outer a u
    → HasTypeUpTo s kinds (inner ++ outer) (put e (length inner) a) t

-- the type is kept, up to naturals, where the closed naturals of the term are evaluated; and the variables' types may be others that are the
-- same
abbrev pub EvaluatingKeepsType : Type 0
EvaluatingKeepsType =
    (s : Setting) (kinds : List Kind) (vars vars' : List TypeTree) (e : TermTree) (t : TypeTree) → IsSound s → AreTermTypes s kinds vars → AreTermTypes s kinds vars' → AreSame vars vars' → HasType s kinds vars e t
    → HasTypeUpTo s kinds vars' (evaluated_in e) t

-- so where a closed type is put for the outermost type variable, and all closed naturals are evaluated
abbrev pub PutTypeInKeepsType : Type 0
PutTypeInKeepsType =
    (s : Setting) (kinds : List Kind) (vars vars' : List TypeTree) (e : TermTree) (t a : TypeTree) (j : Kind) → IsSound s → AreTermTypes s (j ∷ kinds) vars → HasType s (j ∷ kinds) vars e t → HasKind s [] a j
    → AreTermTypes s kinds vars' → AreSame (map (λ u. put_type u 0 a) vars) vars'
    → HasTypeUpTo s kinds vars' (put_type_in e a) (put_type t 0 a)
