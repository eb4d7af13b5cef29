-- What is promised of types of terms.
use Rattle.std.specs.Prelude.{List, Some, [], length, ℕ, ◌≡◌}
use Rattle.chw_prims.specs.Schemas.{schema_type}
use Rattle.chw_prims.specs.declared.prim.Primitive.{Primitive as Prim}
use Rattle.chw_terms.specs.Constructors.{Constructor, con_at}
use Rattle.chw_terms.specs.TermTree.{TermTree, con, prim}
use Rattle.chw_terms.specs.TermView.{applied}
use Rattle.chw_terms.specs.declared.term.Arg.{Arg}
use Rattle.chw_types.specs.Kinds.{KindsOf}
use Rattle.chw_types.specs.SameTypes.{SameTypes}
use Rattle.chw_types.specs.TypeTree.{TypeTree, data_of}
use Rattle.chw_types.specs.TypeView.{trees_of}
use Rattle.chw_types.specs.declared.kind.Kind.{Kind}
use Rattle.chw_typing.specs.Given.{AreGiven, AsksForNone, IsSaturated, Takes, types_then}
use Rattle.chw_typing.specs.HeadTypes.{fields_at, for_each, from_each}
use Rattle.chw_typing.specs.Programs.{IsSound}
use Rattle.chw_typing.specs.Scopes.{AreSame, AreTermTypes, IsTermType, Setting}
use Rattle.chw_typing.specs.TypedSpines.{AtArguments}
use Rattle.chw_typing.specs.Typing.{HasType, HasTypeUpTo}

-- the head of a spine of this type, and what leads from its type to that of the spine
abbrev pub HeadTyped : Setting → List Kind → List TypeTree → TermTree → List Arg → TypeTree → Type 0
HeadTyped s kinds vars e args t =
    (u : TypeTree) × HasType s kinds vars e u × AtArguments s kinds vars u args t

-- facts on types of terms
pub record TermFacts : Type 0 where
  -- what a term has as its type is a type of terms
  pub type_kinded :
      {s : Setting} {kinds : List Kind} {vars : List TypeTree} {e : TermTree} {t : TypeTree}
      → HasType s kinds vars e t → IsSound s → AreTermTypes s kinds vars → IsTermType s kinds t
  -- in scopes that are the same a term has one type, up to naturals
  pub one_type :
      {s : Setting} {kinds : List Kind} {vars vars' : List TypeTree} {e : TermTree} {t u : TypeTree}
      → HasType s kinds vars e t → HasType s kinds vars' e u → IsSound s → AreTermTypes s kinds vars
      → AreTermTypes s kinds vars' → AreSame vars vars' → SameTypes t u
  -- in a scope that is the same a term has a type that is the same
  pub same_variables :
      (s : Setting) (kinds : List Kind) (vars vars' : List TypeTree) (e : TermTree) (t : TypeTree)
      → IsSound s → AreTermTypes s kinds vars → AreTermTypes s kinds vars' → AreSame vars vars'
      → HasType s kinds vars e t → HasTypeUpTo s kinds vars' e t
  -- the head of a typed spine has a type that leads to that of the spine
  pub head_typed :
      (s : Setting) (kinds : List Kind) (vars : List TypeTree) (e : TermTree) (args : List Arg)
      (t : TypeTree)
      → HasType s kinds vars (applied e args) t → HeadTyped s kinds vars e args t
  -- a spine of a type that takes no argument begins with all arguments that its head takes
  pub spine_takes :
      (s : Setting) (kinds : List Kind) (vars : List TypeTree) (e : TermTree) (ks : List Kind)
      (ps : List TypeTree) (r : TypeTree) (args : List Arg) (t : TypeTree)
      → IsSound s → AreTermTypes s kinds vars
      → HasType s kinds vars e (for_each ks (from_each ps r))
      → HasType s kinds vars (applied e args) t → AsksForNone t → Takes (length ks) (length ps) args
  -- one of a constructor has no others
  pub con_takes :
      (s : Setting) (kinds : List Kind) (vars : List TypeTree) (c : ℕ) (it : Constructor)
      (args : List Arg) (t : TypeTree)
      → IsSound s → AreTermTypes s kinds vars → con_at s.datas c ≡ Some it
      → HasType s kinds vars (applied (con c) args) t → AsksForNone t
      → (a : Takes (length it.it.params) (length it.decl.fields) args) × (a.more ≡ [])
  -- what a constructor is given has the kinds and types of its parameters and fields
  pub con_at_arguments :
      (s : Setting) (kinds : List Kind) (vars : List TypeTree) (c : ℕ) (it : Constructor)
      (types : List TypeTree) (es : List TermTree) (t : TypeTree)
      → IsSound s → AreTermTypes s kinds vars → con_at s.datas c ≡ Some it
      → length types ≡ length it.it.params → length es ≡ length it.decl.fields
      → HasType s kinds vars (applied (con c) (types_then types es)) t
      → KindsOf s.datas s.domains kinds (trees_of types) it.it.params
      × AreGiven s kinds vars (fields_at it (trees_of types)) es
      × SameTypes (data_of it.of (trees_of types)) t
  -- what a primitive is given has the kinds and types of its schema
  pub prim_at_arguments :
      (s : Setting) (kinds : List Kind) (vars : List TypeTree) (p : Prim) (ks : List Kind)
      (ps : List TypeTree) (r : TypeTree) (types : List TypeTree) (es : List TermTree)
      (t : TypeTree)
      → IsSound s → AreTermTypes s kinds vars → schema_type p ≡ for_each ks (from_each ps r)
      → length types ≡ length ks → length es ≡ length ps
      → HasType s kinds vars (applied (prim p) (types_then types es)) t
      → IsSaturated s kinds vars ks ps r types es t
