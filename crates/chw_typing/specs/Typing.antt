-- Which terms have which types: a constructor for each form of term. A type that arises as types are put into another may be replaced by one
-- that is the same up to naturals: kinds limit the degree of naturals, and of types that are the same one may have a kind and the other none.
use Rattle.std.specs.Prelude.{◌≡◌, ℕ, suc, ◌≤◌, Bool, List, ◌∷◌, length, Some}
use Rattle.std.specs.List.{slice_get}
use Rattle.chw_types.specs.declared.kind.Kind.{Kind}
use Rattle.chw_types.specs.declared.kind.Scalar.{Scalar}
use Rattle.chw_types.specs.TypeTree.{TypeTree, nat_lit, vector, fun, for_all}
use Rattle.chw_types.specs.TypeMoves.{put}
use Rattle.chw_types.specs.Kinds.{HasFunctions}
use Rattle.chw_types.specs.SameTypes.{SameTypes}
use Rattle.chw_prims.specs.declared.prim.Primitive.{Primitive as Prim}
use Rattle.chw_prims.specs.Schemas.{schema_type}
use Rattle.chw_terms.specs.declared.term.Pattern.{Pattern}
use Rattle.chw_terms.specs.TermTree.{TermTree, var, global, made, lam, app, ty_lam, ty_app, letrec, con, prim, lit, vec_lit, case_of, Terms, no_terms, term_and, Group, no_bindings, bind, Alts, no_alts, alt}
use Rattle.chw_terms.specs.Constructors.{Constructor, con_at}
use Rattle.chw_typing.specs.Scopes.{Setting, HasKind, IsTermType, AreTermTypes, AreSame, under_binder, with_more, declared}
use Rattle.chw_typing.specs.HeadTypes.{con_type, widest, literal_type, IsLookedAt, PatternOf}
use Rattle.chw_typing.specs.Alternatives.{NoneHidden}

-- how many elements there are
abbrev pub count : Terms → ℕ
count no_terms = 0
count (term_and e es) = suc (count es)

-- the pattern is one for values of the type, and binds variables of these types: those of the fields up to naturals, each with a kind
pub record Binds (s : Setting) (kinds : List Kind) (u : TypeTree) (q : Pattern) (bound : List TypeTree) : Type 0 where
  pub fields : List TypeTree
  pub pattern : PatternOf s.datas u q fields
  pub same : AreSame fields bound
  pub typed : AreTermTypes s kinds bound

mutual
  -- with type variables of these kinds and variables of these types in scope, the innermost first, the term has the type
  pub data HasType (s : Setting) : List Kind → List TypeTree → TermTree → TypeTree → Type 0 where
    h_var : {kinds : List Kind} {vars : List TypeTree} {x : ℕ} {t : TypeTree} → slice_get vars x ≡ Some t → HasType s kinds vars (var x) t
    h_global : {kinds : List Kind} {vars : List TypeTree} {d : ℕ} {t : TypeTree} → slice_get s.defs d ≡ Some t → HasType s kinds vars (global d) t
    h_made : {kinds : List Kind} {vars : List TypeTree} {m : ℕ} {t : TypeTree} → slice_get s.made m ≡ Some t → HasType s kinds vars (made m) t
    -- the function type has a kind: so none goes from a circuit to a value
    h_lam : {kinds : List Kind} {vars : List TypeTree} {a b : TypeTree} {e : TermTree} {k : Kind} → HasType s kinds (a ∷ vars) e b → HasKind s kinds (fun a b) k → HasType s kinds vars (lam a e) (fun a b)
    h_app : {kinds : List Kind} {vars : List TypeTree} {a b c : TypeTree} {f e : TermTree} → HasType s kinds vars f (fun a b) → HasType s kinds vars e c → SameTypes a c → HasType s kinds vars (app f e) b
    h_ty_lam : {kinds : List Kind} {vars : List TypeTree} {j : Kind} {t : TypeTree} {e : TermTree} → HasType s (j ∷ kinds) (under_binder vars) e t → HasType s kinds vars (ty_lam j e) (for_all j t)
    -- the argument has exactly the kind that is asked for; the type is the one with it put in, up to naturals, and has a kind
    h_ty_app : {kinds : List Kind} {vars : List TypeTree} {j k : Kind} {t a u : TypeTree} {f : TermTree} → HasType s kinds vars f (for_all j t) → HasKind s kinds a j → SameTypes (put t 0 a) u → HasKind s kinds u k → HasType s kinds vars (ty_app f a) u
    h_letrec : {kinds : List Kind} {vars : List TypeTree} {g : Group} {e : TermTree} {t : TypeTree} {k : Kind} → HasType s kinds (with_more (declared g) vars) e t → HasKind s kinds t k → AreBound s kinds (with_more (declared g) vars) k g → HasType s kinds vars (letrec g e) t
    h_con : {kinds : List Kind} {vars : List TypeTree} {c : ℕ} {it : Constructor} → con_at s.datas c ≡ Some it → HasType s kinds vars (con c) (con_type it)
    h_prim : {kinds : List Kind} {vars : List TypeTree} {p : Prim} → HasType s kinds vars (prim p) (schema_type p)
    h_lit : {kinds : List Kind} {vars : List TypeTree} {r : Scalar} {bits : List Bool} → length bits ≤ widest → HasType s kinds vars (lit r bits) (literal_type r bits)
    h_vec : {kinds : List Kind} {vars : List TypeTree} {t : TypeTree} {es : Terms} → IsTermType s kinds t → AllHave s kinds vars t es → HasType s kinds vars (vec_lit t es) (vector (nat_lit (count es)) t)
    -- the scrutinee's kind j allows the kind k, as a function's parameter does; the type is that of the first alternative
    h_case : {kinds : List Kind} {vars bound : List TypeTree} {q : Pattern} {more : Alts} {u t : TypeTree} {e f : TermTree} {j k : Kind} → HasType s kinds vars e u → IsLookedAt u → HasKind s kinds u j → Binds s kinds u q bound → HasType s kinds (with_more bound vars) f t → HasKind s kinds t k → HasFunctions j k → AllGive s kinds vars u t more → NoneHidden (alt q f more) → HasType s kinds vars (case_of e (alt q f more)) t

  -- each binding's right side has the declared type, whose kind allows the kind k of the whole: a value has only values
  pub data AreBound (s : Setting) : List Kind → List TypeTree → Kind → Group → Type 0 where
    none_bound : {kinds : List Kind} {vars : List TypeTree} {k : Kind} → AreBound s kinds vars k no_bindings
    bound_and : {kinds : List Kind} {vars : List TypeTree} {j k : Kind} {t u : TypeTree} {e : TermTree} {g : Group} → HasKind s kinds t j → HasFunctions j k → HasType s kinds vars e u → SameTypes t u → AreBound s kinds vars k g → AreBound s kinds vars k (bind t e g)

  -- each element has the type
  pub data AllHave (s : Setting) : List Kind → List TypeTree → TypeTree → Terms → Type 0 where
    none_have : {kinds : List Kind} {vars : List TypeTree} {t : TypeTree} → AllHave s kinds vars t no_terms
    have_and : {kinds : List Kind} {vars : List TypeTree} {t u : TypeTree} {e : TermTree} {es : Terms} → HasType s kinds vars e u → SameTypes t u → AllHave s kinds vars t es → AllHave s kinds vars t (term_and e es)

  -- each alternative is for values of the type u, and has the type t
  pub data AllGive (s : Setting) : List Kind → List TypeTree → TypeTree → TypeTree → Alts → Type 0 where
    none_give : {kinds : List Kind} {vars : List TypeTree} {u t : TypeTree} → AllGive s kinds vars u t no_alts
    give_and : {kinds : List Kind} {vars bound : List TypeTree} {u t v : TypeTree} {q : Pattern} {e : TermTree} {more : Alts} → Binds s kinds u q bound → HasType s kinds (with_more bound vars) e v → SameTypes t v → AllGive s kinds vars u t more → AllGive s kinds vars u t (alt q e more)

-- the term has a type that is the same as this one up to naturals
pub record HasTypeUpTo (s : Setting) (kinds : List Kind) (vars : List TypeTree) (e : TermTree) (t : TypeTree) : Type 0 where
  pub type : TypeTree
  pub has : HasType s kinds vars e type
  pub same : SameTypes t type
