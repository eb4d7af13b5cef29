-- The type of a term is one that terms have.
use Rattle.std.proofs.Common.{◌≡◌, ℕ, suc, zero, sym, subst, List, [], ◌∷◌, ◌++◌, reverse}
use Rattle.std.specs.Prelude.{Some}
use Rattle.std.specs.List.{slice_get}
use Rattle.chw_types.specs.declared.kind.Kind.{Kind}
use Rattle.chw_types.specs.declared.kind.Kind.TheVariants.{Val}
use Rattle.chw_types.specs.declared.declarations.Data.{Data}
use Rattle.chw_types.specs.BuiltIn.{built_in}
use Rattle.chw_types.specs.TypeTree.{TypeTree, fun, for_all}
use Rattle.chw_types.specs.TypeMoves.{raised, shift, put_at}
use Rattle.chw_types.specs.Kinds.{IsOfTerms, HasFunctions, KindOf, kind_nat, kind_scalar, kind_vector, kind_fun, kind_for_all}
use Rattle.chw_types.proofs.KindsFound.{one_kind, found_is_kind}
use Rattle.chw_types.proofs.KindsKept.{kind_renamed, renames_shift, closed_anywhere}
use Rattle.chw_prims.specs.declared.prim.Primitive.{Primitive}
use Rattle.chw_prims.specs.Schemas.{schema_type}
use Rattle.chw_prims.proofs.SchemaKinds.{kind_of_schema, schema_has_kind, is_of_terms, is_circuit}
use Rattle.chw_terms.specs.TermTree.{TermTree, Group}
use Rattle.type_laws.proofs.KindsExact.{put_at_kinds}
use Rattle.chw_terms.specs.Constructors.{Constructor, con_at}
use Rattle.chw_typing.specs.Scopes.{Setting, HasKind, IsTermType, AreTermTypes, under_binder, with_more, declared}
use Rattle.chw_typing.specs.HeadTypes.{con_type}
use Rattle.chw_typing.specs.Programs.{IsSound}
use Rattle.chw_typing.specs.Typing.{HasType, h_var, h_global, h_made, h_lam, h_app, h_ty_lam, h_ty_app, h_letrec, h_con, h_prim, h_lit, h_vec, h_case, AreBound, none_bound, bound_and}
use Rattle.chw_typing.proofs.Lists.{reverse_cons}
use Rattle.chw_typing.proofs.PutKinds.{same_kind_put}
use Rattle.chw_typing.proofs.Heads.{functions_of_terms, of_terms_kind, is_constructor, con_kind}

pub term_type : (s : Setting) (kinds : List Kind) (t : TypeTree) (k : Kind) → HasKind s kinds t k → IsOfTerms k → IsTermType s kinds t
term_type s kinds t k d o = record { kind = k; has = d; of_terms = o }

-- the parts of a function type
pub function_parts : {datas : List Data} {domains : ℕ} {scope : List Kind} {a b : TypeTree} {k : Kind} → KindOf datas domains scope (fun a b) k → (j : Kind) × KindOf datas domains scope a j × KindOf datas domains scope b k × HasFunctions j k
function_parts (kind_fun {j = j} d e h) = (j, d, e, h)

pub function_takes : (s : Setting) (kinds : List Kind) (a b : TypeTree) (k : Kind) → HasKind s kinds (fun a b) k → IsTermType s kinds a
function_takes s kinds a b k d = let at = function_parts d in term_type s kinds a at.0 at.1 (functions_of_terms at.0 k at.3).0

pub function_gives : (s : Setting) (kinds : List Kind) (a b : TypeTree) (k : Kind) → HasKind s kinds (fun a b) k → IsTermType s kinds b
function_gives s kinds a b k d = let at = function_parts d in term_type s kinds b k at.2 (functions_of_terms at.0 k at.3).1

pub bound_part : {datas : List Data} {domains : ℕ} {scope : List Kind} {j : Kind} {t : TypeTree} {k : Kind} → KindOf datas domains scope (for_all j t) k → KindOf datas domains (j ∷ scope) t k × IsOfTerms k
bound_part (kind_for_all d o) = (d, o)

pub typed_at : (s : Setting) (kinds : List Kind) (vars : List TypeTree) (x : ℕ) (t : TypeTree) → AreTermTypes s kinds vars → slice_get vars x ≡ Some t → IsTermType s kinds t
typed_at s kinds [] x t h e = absurd (cc)
typed_at s kinds (u ∷ vars) zero t h e = let is : u ≡ t = cc in subst (IsTermType s kinds) is h.0
typed_at s kinds (u ∷ vars) (suc x) t h e = typed_at s kinds vars x t h.1 e

pub typed_append : (s : Setting) (kinds : List Kind) (new vars : List TypeTree) → AreTermTypes s kinds new → AreTermTypes s kinds vars → AreTermTypes s kinds (new ++ vars)
typed_append s kinds [] vars h g = g
typed_append s kinds (t ∷ new) vars h g = (h.0, typed_append s kinds new vars h.1 g)

pub typed_reverse : (s : Setting) (kinds : List Kind) (new : List TypeTree) → AreTermTypes s kinds new → AreTermTypes s kinds (reverse new)
typed_reverse s kinds [] h = tt
typed_reverse s kinds (t ∷ new) h =
    subst (AreTermTypes s kinds) (sym (reverse_cons t new)) (typed_append s kinds (reverse new) (t ∷ []) (typed_reverse s kinds new h.1) (h.0, tt))

pub typed_more : (s : Setting) (kinds : List Kind) (new vars : List TypeTree) → AreTermTypes s kinds new → AreTermTypes s kinds vars → AreTermTypes s kinds (with_more new vars)
typed_more s kinds new vars h g = typed_append s kinds (reverse new) vars (typed_reverse s kinds new h) g

pub typed_shift : (s : Setting) (kinds : List Kind) (j : Kind) (t : TypeTree) → IsTermType s kinds t → IsTermType s (j ∷ kinds) (shift t 0 1)
typed_shift s kinds j t h = term_type s (j ∷ kinds) (shift t 0 1) h.kind (kind_renamed h.has (raised 0 1) (j ∷ kinds) (renames_shift [] (j ∷ []) kinds)) h.of_terms

pub typed_under : (s : Setting) (kinds : List Kind) (j : Kind) (vars : List TypeTree) → AreTermTypes s kinds vars → AreTermTypes s (j ∷ kinds) (under_binder vars)
typed_under s kinds j [] h = tt
typed_under s kinds j (t ∷ vars) h = (typed_shift s kinds j t h.0, typed_under s kinds j vars h.1)

-- what has no variables is typed in every scope
pub typed_anywhere : (s : Setting) (kinds : List Kind) (t : TypeTree) → IsTermType s [] t → IsTermType s kinds t
typed_anywhere s kinds t h = term_type s kinds t h.kind (closed_anywhere h.has kinds) h.of_terms

pub bound_typed : {s : Setting} {kinds : List Kind} {vars : List TypeTree} {k : Kind} {g : Group} → AreBound s kinds vars k g → AreTermTypes s kinds (declared g)
bound_typed none_bound = tt
bound_typed {s} {kinds} (bound_and {j = j} {k = k} {t = t} d h e m b) = (term_type s kinds t j d (functions_of_terms j k h).0, bound_typed b)

pub schema_kind : (s : Setting) (p : Primitive) → IsSound s → IsTermType s [] (schema_type p)
schema_kind s p h =
    term_type s [] (schema_type p) (kind_of_schema p)
    (subst (λ datas. KindOf datas s.domains [] (schema_type p) (kind_of_schema p)) (sym h.begins.1) (found_is_kind (built_in ++ h.begins.0) s.domains [] (schema_type p) (kind_of_schema p) (schema_has_kind p h.begins.0 s.domains)))
    (is_of_terms (is_circuit p))

pub con_typed : (s : Setting) (c : ℕ) (it : Constructor) → IsSound s → con_at s.datas c ≡ Some it → IsTermType s [] (con_type it)
con_typed s c it h e = term_type s [] (con_type it) it.it.kind (con_kind s c it h e) (of_terms_kind s.datas s.domains it.it (h.kinds it.of it.it (is_constructor s.datas c it e).data_type))

pub type_kinded : {s : Setting} {kinds : List Kind} {vars : List TypeTree} {e : TermTree} {t : TypeTree} → HasType s kinds vars e t → IsSound s → AreTermTypes s kinds vars → IsTermType s kinds t
type_kinded {s} {kinds} {vars} (h_var {x = x} {t = t} e) h g = typed_at s kinds vars x t g e
type_kinded {s} {kinds} (h_global {d = d} {t = t} e) h g = typed_anywhere s kinds t (h.defs d t e)
type_kinded {s} {kinds} (h_made {m = m} {t = t} e) h g = typed_anywhere s kinds t (h.made m t e)
type_kinded {s} {kinds} (h_lam {a = a} {b = b} {k = k} d l) h g = let at = function_parts l in term_type s kinds (fun a b) k l (functions_of_terms at.0 k at.3).1
type_kinded {s} {kinds} (h_app {a = a} {b = b} d e x) h g = let of = type_kinded d h g in function_gives s kinds a b of.kind of.has
type_kinded {s} {kinds} {vars} (h_ty_lam {j = j} {t = t} d) h g =
    let of = type_kinded d h (typed_under s kinds j vars g) in
    term_type s kinds (for_all j t) of.kind (kind_for_all of.has of.of_terms) of.of_terms
type_kinded {s} {kinds} (h_ty_app {j = j} {k = k} {a = a} {u = u} d l x m) h g =
    let of = type_kinded d h g in
    let is = same_kind_put (bound_part of.has).0 (put_at 0 a) kinds (put_at_kinds s.datas s.domains [] kinds a j l) u k x m in
    term_type s kinds u k m (subst IsOfTerms (sym is) of.of_terms)
type_kinded {s} {kinds} {vars} (h_letrec {g = b} {t = t} {k = k} d l bs) h g =
    let of = type_kinded d h (typed_more s kinds (declared b) vars (bound_typed bs) g) in
    term_type s kinds t k l (subst IsOfTerms (one_kind of.has l) of.of_terms)
type_kinded {s} {kinds} (h_con {c = c} {it = it} e) h g = typed_anywhere s kinds (con_type it) (con_typed s c it h e)
type_kinded {s} {kinds} (h_prim {p = p}) h g = typed_anywhere s kinds (schema_type p) (schema_kind s p h)
type_kinded {s} {kinds} (h_lit l) h g = term_type s kinds _ Val (kind_scalar kind_nat) tt
type_kinded {s} {kinds} (h_vec l d) h g = term_type s kinds _ l.kind (kind_vector kind_nat l.has l.of_terms) l.of_terms
type_kinded {s} {kinds} (h_case {t = t} {j = j} {k = k} d i l p f m a o n) h g = term_type s kinds t k m (functions_of_terms j k a).1
