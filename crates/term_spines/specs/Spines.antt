-- Terms at the arguments so far, of which type arguments wait.
use Rattle.std.specs.Prelude.{◌≡◌, ◌≤◌, List, Option, Some, None, MatchOption, reverse}
use Rattle.chw_types.specs.declared.kind.Kind.{Kind}
use Rattle.chw_types.specs.TypeTree.{TypeTree, fun, for_all}
use Rattle.chw_types.specs.TypeMoves.{Substitution, sub}
use Rattle.chw_types.specs.Arguments.{given}
use Rattle.chw_types.specs.Kinds.{degree}
use Rattle.chw_typing.specs.Scopes.{Setting, HasKind}
use Rattle.seen_types.specs.NumberOf.{IsNumberOf}
use Rattle.term_spines.specs.Forms.{Takes, TakesNot, TakesType, TakesTypeNot}
use Rattle.seen_types.specs.declared.found.Found.{Found}
use Rattle.term_spines.specs.declared.spines.Spine.{Spine}

-- what waits, for the variables of the binders that were passed
abbrev pub put_for : Spine → Substitution
put_for p = given (reverse p.waiting.items)

-- the number of the type, where it is known, is that in the table
abbrev pub IsNumbered : List TypeTree → Spine → Type 0
IsNumbered ts p = IsNumberOf ts p.number p.body.ty

-- what is found for the term: the type with what waits put into it, with its kind
abbrev pub spine_found : Spine → Found
spine_found p = record { ty = sub p.body.ty (put_for p); kind = p.body.kind }

-- with nothing put, this was found
abbrev pub IsStarted : Option Found → Option Spine → Type 0
IsStarted o r = MatchOption r (o ≡ None) (λ p. o ≡ Some (spine_found p))

-- what a term of the type, which has its kind, gives at a type argument
abbrev pub AtType : Setting → List Kind → Found → TypeTree → Option Spine → Type 0
AtType s kinds f a r =
    HasKind s kinds f.ty f.kind
    → MatchOption r (TakesTypeNot s kinds f.ty a) (λ p. TakesType s kinds f.ty a (spine_found p))

-- what a term of the type gives at a term of that type
abbrev pub AtTerm : Found → TypeTree → Option Spine → Type 0
AtTerm f t r = MatchOption r (TakesNot f.ty t) (λ p. Takes f t (spine_found p))

-- the type has a type parameter, and the argument has a degree of at most 1
pub record CanWait (t arg : TypeTree) : Type 0 where
  pub kind : Kind
  pub of : TypeTree
  pub is : t ≡ for_all kind of
  pub small : degree arg ≤ 1

-- the type is one of functions
pub record IsFunction (t : TypeTree) : Type 0 where
  pub from : TypeTree
  pub to : TypeTree
  pub is : t ≡ fun from to
