-- For a term that has a type one is found, and it is the same up to naturals.
use Rattle.std.proofs.Common.{refl, subst, List, map}
use Rattle.chw_types.specs.declared.kind.Kind.{Kind}
use Rattle.chw_types.specs.TypeTree.{TypeTree, fun, for_all}
use Rattle.chw_types.specs.TypeMoves.{put}
use Rattle.chw_types.specs.Kinds.{kind_fun}
use Rattle.chw_types.specs.SameTypes.{SameTypes, same_fun, same_for_all}
use Rattle.chw_types.proofs.SameLaws.{same_self, same_turned, same_through}
use Rattle.chw_terms.specs.TermTree.{TermTree, var, global, made, lam, app, ty_lam, ty_app, letrec, con, prim, lit, vec_lit, case_of, Alts, no_alts, alt}
use Rattle.chw_terms.proofs.TermsPut.{sub_ids}
use Rattle.type_laws.proofs.SameForms.{as_function, as_bound}
use Rattle.chw_typing.specs.Scopes.{Setting, HasKind, AreTermTypes, AreSame, with_more, declared}
use Rattle.chw_typing.specs.Programs.{IsSound}
use Rattle.chw_typing.specs.Typing.{HasType, h_var, h_global, h_made, h_lam, h_app, h_ty_lam, h_ty_app, h_letrec, h_con, h_prim, h_lit, h_vec, h_case, AllGive, none_give, give_and, HasTypeUpTo}
use Rattle.chw_typing.proofs.Kinded.{function_parts, function_takes, bound_part, typed_under, typed_more, bound_typed, type_kinded}
use Rattle.chw_typing.proofs.OneType.{put_same_of_kinds}
use Rattle.chw_typing.proofs.Patterns.{are_of_terms, pattern_same, binds_same, looked_at_same}
use Rattle.chw_typing.proofs.SameScopes.{are_same_self, are_same_turned, are_same_through, same_more}
use Rattle.chw_typing.proofs.TermsPut.{term_put, puts_same, kind_same}
use Rattle.chw_typing.specs.Finding.{settled, Finds, f_var, f_global, f_made, f_lam, f_app, f_ty_lam, f_ty_app, f_letrec, f_con, f_prim, f_lit, f_vec, f_case}
use Rattle.chw_typing.proofs.FoundTyped.{found_is_type}
use Rattle.chw_typing.proofs.Settling.{same_settled, all_same_settled, kind_settled, all_settled_typed}

-- a type that is found, and is the same as this one
pub record Found (s : Setting) (kinds : List Kind) (vars : List TypeTree) (e : TermTree) (t : TypeTree) : Type 0 where
  pub type : TypeTree
  pub is : Finds s kinds vars e type
  pub same : SameTypes t type

-- the type is kept where variables have types that are the same
in_same_scope : {s : Setting} {kinds : List Kind} {vars : List TypeTree} {e : TermTree} {t : TypeTree} → HasType s kinds vars e t → IsSound s → AreTermTypes s kinds vars → (vars' : List TypeTree) → AreTermTypes s kinds vars' → AreSame vars vars' → HasTypeUpTo s kinds vars' e t
in_same_scope {s} {kinds} {vars} {e} {t} d h g vars' g' q = subst (λ f. HasTypeUpTo s kinds vars' f t) (sub_ids e) (term_put d h g var vars' g' (puts_same s kinds vars vars' q))

-- the other alternatives, where the scrutinee and the first alternative have types that are the same
give_same : {s : Setting} {kinds : List Kind} {vars : List TypeTree} {u t : TypeTree} {alts : Alts} → AllGive s kinds vars u t alts → IsSound s → (j : Kind) (u' t' : TypeTree) → HasKind s kinds u j → SameTypes u u' → SameTypes t t' → AllGive s kinds vars u' t' alts
give_same none_give h j u' t' l x y = none_give
give_same (give_and b d z ds) h j u' t' l x y = give_and (binds_same b h j u' l x) d (same_through (same_turned y) z) (give_same ds h j u' t' l x y)

-- what is found has the kind of the type that is the same
found_kind : {s : Setting} {kinds : List Kind} {vars : List TypeTree} {e : TermTree} {t : TypeTree} (f : Found s kinds vars e t) → IsSound s → AreTermTypes s kinds vars → (k : Kind) → HasKind s kinds t k → HasKind s kinds f.type k
found_kind {s} {kinds} {t = t} f h g k d = kind_same s kinds t f.type k d (type_kinded (found_is_type f.is) h g) f.same

pub typed_found : (e : TermTree) {s : Setting} {kinds : List Kind} {vars : List TypeTree} {t : TypeTree} → HasType s kinds vars e t → IsSound s → AreTermTypes s kinds vars → Found s kinds vars e t
typed_found (var x) (h_var {t = t} e) h g = record { type = t; is = f_var e; same = same_self t }
typed_found (global d) (h_global {t = t} e) h g = record { type = t; is = f_global e; same = same_self t }
typed_found (made m) (h_made {t = t} e) h g = record { type = t; is = f_made e; same = same_self t }
typed_found (lam a e) {s} {kinds} (h_lam {b = b} {k = k} d l) h g =
    let takes = function_takes s kinds a b k l in
    let parts = function_parts l in
    let body = typed_found e d h (takes, g) in
    record { type = fun a body.type; is = f_lam body.is (kind_fun parts.1 (found_kind body h (takes, g) k parts.2) parts.3); same = same_fun (same_self a) body.same }
typed_found (app f e) {s} {kinds} {vars} (h_app d x y) h g =
    let of = typed_found f d h g in
    let arg = typed_found e x h g in
    let at = as_function of.same in
    record { type = at.1; is = f_app (subst (Finds s kinds vars f) at.2 of.is) arg.is (same_through (same_turned at.3) (same_through y arg.same)); same = at.4 }
typed_found (ty_lam j e) {s} {kinds} {vars} (h_ty_lam d) h g =
    let body = typed_found e d h (typed_under s kinds j vars g) in
    record { type = for_all j body.type; is = f_ty_lam body.is; same = same_for_all body.same }
typed_found (ty_app f a) {s} {kinds} {vars} (h_ty_app {j = j} {k = k} {u = u} d l x m) h g =
    let of = typed_found f d h g in
    let at = as_bound of.same in
    let is = subst (Finds s kinds vars f) at.1 of.is in
    let part = put_same_of_kinds j (are_of_terms s h) (bound_part (type_kinded d h g).has).0 (bound_part (type_kinded {t = for_all j at.0} (found_is_type is) h g).has).0 l at.2 (same_self a) in
    let same : SameTypes (put at.0 0 a) u = same_through (same_turned part) x in
    record {
      type = settled s kinds (put at.0 0 a);
      is = f_ty_app is l refl (kind_settled s kinds (put at.0 0 a) u k (are_of_terms s h) same m);
      same = same_through (same_turned same) (same_settled s kinds (put at.0 0 a));
    }
typed_found (letrec b e) {s} {kinds} {vars} (h_letrec {t = t} {k = k} d l bs) h g =
    let inner = typed_more s kinds (declared b) vars (bound_typed bs) g in
    let body = typed_found e d h inner in
    record { type = body.type; is = f_letrec body.is (found_kind body h inner k l) bs; same = body.same }
typed_found (con c) (h_con e) h g = record { type = _; is = f_con e; same = same_self _ }
typed_found (prim p) h_prim h g = record { type = _; is = f_prim; same = same_self _ }
typed_found (lit r bits) (h_lit l) h g = record { type = _; is = f_lit l; same = same_self _ }
typed_found (vec_lit t es) (h_vec k d) h g = record { type = _; is = f_vec k d; same = same_self _ }
typed_found (case_of e (alt q f more)) {s} {kinds} {vars} (h_case {bound = bound} {u = u} {t = t} {j = j} {k = k} d i l b m o a r n) h g =
    let on = typed_found e d h g in
    let p = pattern_same b.pattern h kinds j on.type l on.same in
    let names = map (λ x. settled s kinds x) p.types in
    let fields = are_same_through p.types b.fields bound (are_same_turned b.fields p.types p.same) b.same in
    let typed = all_settled_typed s kinds p.types bound (are_of_terms s h) fields b.typed in
    let same = are_same_through bound p.types names (are_same_turned p.types bound fields) (all_same_settled s kinds p.types) in
    let scope = typed_more s kinds names vars typed g in
    let has = in_same_scope m h (typed_more s kinds bound vars b.typed g) (with_more names vars) scope (same_more bound names vars vars same (are_same_self vars)) in
    let body = typed_found f has.has h scope in
    let whole : SameTypes t body.type = same_through {u = has.type} {v = body.type} has.same body.same in
    record {
      type = body.type;
      is = f_case on.is (looked_at_same u on.type i on.same) (found_kind on h g j l) p.of refl typed body.is
          (kind_same s kinds t body.type k o (type_kinded {t = body.type} (found_is_type body.is) h scope) whole) a (give_same r h j on.type body.type l on.same whole) n;
      same = whole;
    }
typed_found (case_of e no_alts) d h g = elim d [ ]
