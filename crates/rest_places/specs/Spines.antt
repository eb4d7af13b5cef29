-- Terms whose types take no arguments, by their heads, with the types of what these are given.
use Rattle.std.specs.Prelude.{◌≡◌, ℕ, ◌≤◌, Bool, List, [], ◌∷◌, length, Some}
use Rattle.std.specs.List.{slice_get}
use Rattle.chw_types.specs.declared.kind.Kind.{Kind}
use Rattle.chw_types.specs.declared.kind.Scalar.{Scalar}
use Rattle.chw_types.specs.Kinds.{KindsOf}
use Rattle.chw_types.specs.SameTypes.{SameTypes}
use Rattle.chw_types.specs.TypeTree.{TypeTree, ty_var, nat_lit, data_of, vector, fun, for_all}
use Rattle.chw_types.specs.TypeView.{trees_of}
use Rattle.chw_prims.specs.declared.prim.Primitive.{Primitive as Prim}
use Rattle.chw_prims.specs.Schemas.{schema_type}
use Rattle.chw_terms.specs.declared.term.Arg.{Arg}
use Rattle.chw_terms.specs.Constructors.{Constructor, con_at}
use Rattle.chw_terms.specs.TermTree.{TermTree, var, global, made, lam, app, ty_lam, ty_app}
use Rattle.chw_terms.specs.TermTree.{letrec, con, prim, lit, vec_lit, case_of, Terms, Group, Alts}
use Rattle.chw_terms.specs.TermView.{applied}
use Rattle.chw_terms.specs.Unrolled.{parameters}
use Rattle.chw_typing.specs.Given.{types_then, AreGiven, IsSaturated}
use Rattle.chw_typing.specs.HeadTypes.{widest, literal_type, fields_at}
use Rattle.chw_typing.specs.Scopes.{Setting, IsTermType}
use Rattle.chw_typing.specs.TypedSpines.{AtArguments}
use Rattle.chw_typing.specs.Typing.{HasType, AllHave, count}

-- the kinds of a type's type parameters
abbrev pub param_kinds : TypeTree → List Kind
param_kinds (for_all k t) = k ∷ param_kinds t
param_kinds _ = []

-- the type of the result, after type parameters and parameters
abbrev pub result_of : TypeTree → TypeTree
result_of (for_all k t) = result_of t
result_of (fun a b) = result_of b
result_of t = t

abbrev pub IsTypeVariable : TypeTree → Type 0
IsTypeVariable (ty_var x) = Unit {0}
IsTypeVariable t = ⊥

-- a constructor at these types, on terms of its fields' types, has the data type
pub record ConGiven (s : Setting) (vars : List TypeTree) (c : ℕ) (it : Constructor)
    (types : List TypeTree) (es : List TermTree) (t : TypeTree) : Type 0 where
  pub is : con_at s.datas c ≡ Some it
  pub on_types : length types ≡ length it.it.params
  pub on_terms : length es ≡ length it.decl.fields
  pub kinds : KindsOf s.datas s.domains [] (trees_of types) it.it.params
  pub fields : AreGiven s [] vars (fields_at it (trees_of types)) es
  pub gives : SameTypes (data_of it.of (trees_of types)) t

-- a primitive at as many types, and on as many terms, as its type has parameters, with arguments
-- after them: there are such only where the type of the result is one of its type parameters
pub record PrimGiven (s : Setting) (vars : List TypeTree) (p : Prim) (types : List TypeTree)
    (es : List TermTree) (more : List Arg) (t : TypeTree) : Type 0 where
  pub on_types : length types ≡ length (param_kinds (schema_type p))
  pub on_terms : length es ≡ length (parameters (schema_type p))
  pub type : TypeTree
  pub has : HasType s [] vars (applied (prim p) (types_then types es)) type
  pub saturated : IsSaturated s [] vars (param_kinds (schema_type p)) (parameters (schema_type p))
      (result_of (schema_type p)) types es type
  pub leads : AtArguments s [] vars type more t
  pub alone : (IsTypeVariable (result_of (schema_type p)) → ⊥) → more ≡ []

-- a term of the type t, by its head: a lambda has an argument, a constructor has its own, a
-- primitive has at least its own, a literal and a vector have none
pub data IsSpine (s : Setting) (vars : List TypeTree) (t : TypeTree) : TermTree → Type 0 where
  on_variable : (x : ℕ) (args : List Arg) {u : TypeTree}
      → slice_get vars x ≡ Some u → AtArguments s [] vars u args t
      → IsSpine s vars t (applied (var x) args)
  on_global : (d : ℕ) (args : List Arg) {u : TypeTree}
      → slice_get s.defs d ≡ Some u → AtArguments s [] vars u args t
      → IsSpine s vars t (applied (global d) args)
  on_made : (m : ℕ) (args : List Arg) {u : TypeTree}
      → slice_get s.made m ≡ Some u → AtArguments s [] vars u args t
      → IsSpine s vars t (applied (made m) args)
  on_lambda : (b : TypeTree) (e a : TermTree) (rest : List Arg) {u : TypeTree}
      → HasType s [] vars (app (lam b e) a) u → AtArguments s [] vars u rest t
      → IsSpine s vars t (applied (app (lam b e) a) rest)
  on_type_lambda : (k : Kind) (e : TermTree) (a : TypeTree) (rest : List Arg) {u : TypeTree}
      → HasType s [] vars (ty_app (ty_lam k e) a) u → AtArguments s [] vars u rest t
      → IsSpine s vars t (applied (ty_app (ty_lam k e) a) rest)
  on_letrec : (g : Group) (e : TermTree) (args : List Arg) {u : TypeTree}
      → HasType s [] vars (letrec g e) u → AtArguments s [] vars u args t
      → IsSpine s vars t (applied (letrec g e) args)
  on_case : (e : TermTree) (alts : Alts) (args : List Arg) {u : TypeTree}
      → HasType s [] vars (case_of e alts) u → AtArguments s [] vars u args t
      → IsSpine s vars t (applied (case_of e alts) args)
  on_constructor : (c : ℕ) (types : List TypeTree) (es : List TermTree) {it : Constructor}
      → ConGiven s vars c it types es t → IsSpine s vars t (applied (con c) (types_then types es))
  on_primitive : (p : Prim) (types : List TypeTree) (es : List TermTree) (more : List Arg)
      → PrimGiven s vars p types es more t
      → IsSpine s vars t (applied (applied (prim p) (types_then types es)) more)
  on_literal : (r : Scalar) (bits : List Bool)
      → length bits ≤ widest → literal_type r bits ≡ t → IsSpine s vars t (lit r bits)
  on_vector : (u : TypeTree) (es : Terms)
      → IsTermType s [] u → AllHave s [] vars u es → vector (nat_lit (count es)) u ≡ t
      → IsSpine s vars t (vec_lit u es)
