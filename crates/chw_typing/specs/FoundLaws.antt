-- What is promised of the type that is found for a term.
use Rattle.std.specs.Prelude.{◌≡◌, List, [], ◌∷◌}
use Rattle.chw_types.specs.declared.kind.Kind.{Kind}
use Rattle.chw_types.specs.TypeTree.{TypeTree}
use Rattle.chw_types.specs.TypeMoves.{put}
use Rattle.chw_types.specs.SameTypes.{SameTypes}
use Rattle.chw_terms.specs.TermTree.{TermTree}
use Rattle.chw_typing.specs.Scopes.{Setting, HasKind, AreTermTypes}
use Rattle.chw_typing.specs.Programs.{IsSound}
use Rattle.chw_typing.specs.Typing.{HasType}
use Rattle.chw_typing.specs.Finding.{settled, Finds}

-- at most one type is found for a term
abbrev pub OneFound : Type 0
OneFound =
    (s : Setting) (kinds : List Kind) (vars : List TypeTree) (e : TermTree) (t u : TypeTree)
    → Finds s kinds vars e t → Finds s kinds vars e u → t ≡ u

-- what is found is a type of the term
abbrev pub FoundIsType : Type 0
FoundIsType =
    (s : Setting) (kinds : List Kind) (vars : List TypeTree) (e : TermTree) (t : TypeTree)
    → Finds s kinds vars e t → HasType s kinds vars e t

-- for a term that has a type one is found, which is the same up to naturals
abbrev pub TypedIsFound : Type 0
TypedIsFound =
    (s : Setting) (kinds : List Kind) (vars : List TypeTree) (e : TermTree) (t : TypeTree)
    → IsSound s → AreTermTypes s kinds vars → HasType s kinds vars e t
    → (u : TypeTree) × Finds s kinds vars e u × SameTypes t u

-- a type of one variable into which a closed type of its kind is put stays as it is
abbrev pub ClosedSettles : Type 0
ClosedSettles =
    (s : Setting) (j k : Kind) (t a : TypeTree) → HasKind s (j ∷ []) t k → HasKind s [] a j
    → settled s [] (put t 0 a) ≡ put t 0 a
