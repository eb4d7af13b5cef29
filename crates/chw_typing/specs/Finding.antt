-- The type that is found for a term. A term may have several types, all the same up to naturals; of
-- these one is found.
use Rattle.std.specs.Prelude.{◌≡◌, ℕ, ◌≤◌, Bool, List, ◌∷◌, map, length, Option, Some, None}
use Rattle.std.specs.List.{slice_get}
use Rattle.chw_types.specs.declared.kind.Kind.{Kind}
use Rattle.chw_types.specs.declared.kind.Scalar.{Scalar}
use Rattle.chw_types.specs.TypeTree.{TypeTree, nat_lit, vector, fun, for_all}
use Rattle.chw_types.specs.TypeMoves.{put}
use Rattle.chw_types.specs.KindFound.{kind_found}
use Rattle.chw_types.specs.Kinds.{HasFunctions}
use Rattle.chw_types.specs.SameTypes.{SameTypes}
use Rattle.chw_prims.specs.declared.prim.Primitive.{Primitive as Prim}
use Rattle.chw_prims.specs.Schemas.{schema_type}
use Rattle.chw_terms.specs.declared.term.Pattern.{Pattern}
use Rattle.chw_terms.specs.TermTree.{TermTree, Terms, Group, Alts, alt}
use Rattle.chw_terms.specs.TermTree.{var, global, made, lam, app, ty_lam, ty_app}
use Rattle.chw_terms.specs.TermTree.{letrec, con, prim, lit, vec_lit, case_of}
use Rattle.chw_terms.specs.Constructors.{Constructor, con_at}
use Rattle.chw_typing.specs.Scopes.{Setting, HasKind, IsTermType, AreTermTypes}
use Rattle.chw_typing.specs.Scopes.{under_binder, with_more, declared}
use Rattle.chw_typing.specs.HeadTypes.{con_type, widest, literal_type, IsLookedAt, PatternOf}
use Rattle.chw_typing.specs.Alternatives.{NoneHidden}
use Rattle.chw_typing.specs.Typing.{count, AreBound, AllHave, AllGive}
use Rattle.chw_typing.specs.WithoutZeros.{without_zeros}

-- by the kind of a type, if it has one: the type as it is, or else without zeros
abbrev pub settled_by : Option Kind → TypeTree → TypeTree
settled_by (Some k) t = t
settled_by None t = without_zeros t

-- a type that arose as types were put into another: as it is where it has a kind, and else without
-- zeros
abbrev pub settled : Setting → List Kind → TypeTree → TypeTree
settled s kinds t = settled_by (kind_found s.datas s.domains kinds t) t

-- with type variables of these kinds and variables of these types in scope, the innermost first,
-- this type is found for the term: the one that the rule of its form makes of what is found for its
-- parts. A case has that of its first alternative.
pub data Finds (s : Setting) : List Kind → List TypeTree → TermTree → TypeTree → Type 0 where
  f_var : {kinds : List Kind} {vars : List TypeTree} {x : ℕ} {t : TypeTree}
      → slice_get vars x ≡ Some t → Finds s kinds vars (var x) t
  f_global : {kinds : List Kind} {vars : List TypeTree} {d : ℕ} {t : TypeTree}
      → slice_get s.defs d ≡ Some t → Finds s kinds vars (global d) t
  f_made : {kinds : List Kind} {vars : List TypeTree} {m : ℕ} {t : TypeTree}
      → slice_get s.made m ≡ Some t → Finds s kinds vars (made m) t
  f_lam : {kinds : List Kind} {vars : List TypeTree} {a b : TypeTree} {e : TermTree} {k : Kind}
      → Finds s kinds (a ∷ vars) e b → HasKind s kinds (fun a b) k
      → Finds s kinds vars (lam a e) (fun a b)
  f_app : {kinds : List Kind} {vars : List TypeTree} {a b c : TypeTree} {f e : TermTree}
      → Finds s kinds vars f (fun a b) → Finds s kinds vars e c → SameTypes a c
      → Finds s kinds vars (app f e) b
  f_ty_lam : {kinds : List Kind} {vars : List TypeTree} {j : Kind} {t : TypeTree} {e : TermTree}
      → Finds s (j ∷ kinds) (under_binder vars) e t → Finds s kinds vars (ty_lam j e) (for_all j t)
  f_ty_app : {kinds : List Kind} {vars : List TypeTree} {j k : Kind} {t a u : TypeTree}
      {f : TermTree}
      → Finds s kinds vars f (for_all j t) → HasKind s kinds a j → settled s kinds (put t 0 a) ≡ u
      → HasKind s kinds u k → Finds s kinds vars (ty_app f a) u
  f_letrec : {kinds : List Kind} {vars : List TypeTree} {g : Group} {e : TermTree} {t : TypeTree}
      {k : Kind}
      → Finds s kinds (with_more (declared g) vars) e t → HasKind s kinds t k
      → AreBound s kinds (with_more (declared g) vars) k g → Finds s kinds vars (letrec g e) t
  f_con : {kinds : List Kind} {vars : List TypeTree} {c : ℕ} {it : Constructor}
      → con_at s.datas c ≡ Some it → Finds s kinds vars (con c) (con_type it)
  f_prim : {kinds : List Kind} {vars : List TypeTree} {p : Prim}
      → Finds s kinds vars (prim p) (schema_type p)
  f_lit : {kinds : List Kind} {vars : List TypeTree} {r : Scalar} {bits : List Bool}
      → length bits ≤ widest → Finds s kinds vars (lit r bits) (literal_type r bits)
  f_vec : {kinds : List Kind} {vars : List TypeTree} {t : TypeTree} {es : Terms}
      → IsTermType s kinds t → AllHave s kinds vars t es
      → Finds s kinds vars (vec_lit t es) (vector (nat_lit (count es)) t)
  -- the names of a pattern have the fields' types, each settled
  f_case : {kinds : List Kind} {vars fields bound : List TypeTree} {q : Pattern} {more : Alts}
      {u t : TypeTree} {e f : TermTree} {j k : Kind}
      → Finds s kinds vars e u → IsLookedAt u → HasKind s kinds u j → PatternOf s.datas u q fields
      → map (λ a. settled s kinds a) fields ≡ bound → AreTermTypes s kinds bound
      → Finds s kinds (with_more bound vars) f t → HasKind s kinds t k → HasFunctions j k
      → AllGive s kinds vars u t more → NoneHidden (alt q f more)
      → Finds s kinds vars (case_of e (alt q f more)) t
