-- The answer to what the type of a term is.
use Rattle.std.specs.Prelude.{List, Option, MatchOption}
use Rattle.chw_types.specs.declared.kind.Kind.{Kind}
use Rattle.chw_types.specs.TypeTree.{TypeTree}
use Rattle.chw_terms.specs.TermTree.{TermTree}
use Rattle.chw_typing.specs.Scopes.{Setting, HasKind, AreTermTypes}
use Rattle.chw_typing.specs.Programs.{IsSound}
use Rattle.chw_typing.specs.Typing.{HasType}
use Rattle.chw_typing.specs.Finding.{Finds}
use Rattle.term_frames.specs.InScope.{InScope}
use Rattle.term_spines.specs.Kinding.{HaveKinds}
use Rattle.seen_types.specs.declared.found.Found.{Found}

-- the term has no type
abbrev pub HasNoType : Setting → List Kind → List TypeTree → TermTree → Type 0
HasNoType s kinds vars e = (t : TypeTree) → HasType s kinds vars e t → ⊥

-- this is the type that is found for the term, with its kind
abbrev pub IsTyped : Setting → List Kind → List TypeTree → TermTree → Found → Type 0
IsTyped s kinds vars e f = Finds s kinds vars e f.ty × HasKind s kinds f.ty f.kind

-- the type that is found for the term with its kind, or nothing where it has no type
abbrev pub IsAnswer : Setting → List Kind → List TypeTree → TermTree → Option Found → Type 0
IsAnswer s kinds vars e r = MatchOption r (HasNoType s kinds vars e) (λ f. IsTyped s kinds vars e f)

-- what types are found over: the setting is sound, and the variables have types that terms have
abbrev pub IsReady : Setting → List Kind → List TypeTree → Type 0
IsReady s kinds vars = IsSound s × AreTermTypes s kinds vars

-- the same of the variables in scope, with the kinds of their types
abbrev pub IsSet : Setting → List Kind → InScope → Type 0
IsSet s kinds scope = IsReady s kinds scope.vars × HaveKinds s kinds scope.vars scope.kinds
