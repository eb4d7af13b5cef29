-- What is promised of the types of variables in scope.
use Rattle.std.specs.List.{slice_get}
use Rattle.std.specs.Prelude.{List, Some, length, ℕ, ◌≡◌}
use Rattle.chw_terms.specs.TermTree.{Group}
use Rattle.chw_types.specs.SameTypes.{SameTypes}
use Rattle.chw_types.specs.TypeTree.{TypeTree}
use Rattle.chw_types.specs.declared.kind.Kind.{Kind}
use Rattle.chw_typing.specs.Given.{AllAllow}
use Rattle.chw_typing.specs.Scopes.{AreSame, AreTermTypes, IsTermType, Setting, declared, with_more}
use Rattle.chw_typing.specs.Typing.{AreBound}

-- facts on the types of variables in scope
pub record ScopeFacts : Type 0 where
  -- each type of a list is the same as itself
  pub are_same_self : (ts : List TypeTree) → AreSame ts ts
  -- lists of types that are the same are so in the other order
  pub are_same_turned : (ts us : List TypeTree) → AreSame ts us → AreSame us ts
  -- and through a third list
  pub are_same_through : (ts us vs : List TypeTree) → AreSame ts us → AreSame us vs → AreSame ts vs
  -- they are as long
  pub are_same_length : (ts us : List TypeTree) → AreSame ts us → length us ≡ length ts
  -- at each place of the one list, the other has a type that is the same
  pub same_at :
      (vars vars' : List TypeTree) (x : ℕ) (t : TypeTree)
      → AreSame vars vars' → slice_get vars x ≡ Some t
      → (u : TypeTree) × (slice_get vars' x ≡ Some u) × SameTypes t u
  -- further binders of types that are the same keep scopes the same
  pub same_more :
      (new new' vars vars' : List TypeTree)
      → AreSame new new' → AreSame vars vars' → AreSame (with_more new vars) (with_more new' vars')
  -- in a scope of types of terms each variable has one
  pub typed_at :
      (s : Setting) (kinds : List Kind) (vars : List TypeTree) (x : ℕ) (t : TypeTree)
      → AreTermTypes s kinds vars → slice_get vars x ≡ Some t → IsTermType s kinds t
  -- further binders of types of terms keep it such a scope
  pub typed_more :
      (s : Setting) (kinds : List Kind) (new vars : List TypeTree)
      → AreTermTypes s kinds new → AreTermTypes s kinds vars
      → AreTermTypes s kinds (with_more new vars)
  -- the types that a typed group declares are types of terms
  pub bound_typed :
      {s : Setting} {kinds : List Kind} {vars : List TypeTree} {k : Kind} {g : Group}
      → AreBound s kinds vars k g → AreTermTypes s kinds (declared g)
  -- types that functions may take are types of terms
  pub allowed_typed :
      (s : Setting) (kinds : List Kind) (k : Kind) (ts : List TypeTree)
      → AllAllow s kinds k ts → AreTermTypes s kinds ts
