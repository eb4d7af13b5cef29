-- Types are kept, up to naturals, where the closed naturals of a term are evaluated.
use Rattle.std.proofs.Common.{◌≡◌, suc, refl, ap, subst, List, ◌∷◌}
use Rattle.chw_types.specs.declared.kind.Kind.{Kind}
use Rattle.chw_types.specs.TypeTree.{TypeTree, nat_lit, vector, fun, for_all}
use Rattle.chw_types.specs.Kinds.{kind_fun}
use Rattle.chw_types.specs.SameTypes.{SameTypes, same_vector, same_fun, same_for_all}
use Rattle.chw_types.proofs.SameLaws.{same_self, same_turned, same_through}
use Rattle.chw_terms.specs.declared.term.Pattern.{Pattern}
use Rattle.chw_terms.specs.TermTree.{TermTree, vec_lit, Terms, no_terms, term_and, Group, no_bindings, bind, Alts, no_alts, alt}
use Rattle.chw_terms.specs.Evaluated.{evaluated, evaluated_in, evaluated_in_all, evaluated_in_group, evaluated_in_alts}
use Rattle.type_laws.proofs.SameForms.{as_function, as_bound}
use Rattle.chw_typing.specs.Scopes.{Setting, HasKind, AreTermTypes, AreSame, under_binder, with_more, declared}
use Rattle.chw_typing.specs.Alternatives.{HidesNone, NoneHidden}
use Rattle.chw_typing.specs.Programs.{IsSound}
use Rattle.chw_typing.specs.Typing.{count, HasType, h_var, h_global, h_made, h_lam, h_app, h_ty_lam, h_ty_app, h_letrec, h_con, h_prim, h_lit, h_vec, h_case, AreBound, none_bound, bound_and, AllHave, none_have, have_and, AllGive, none_give, give_and, HasTypeUpTo}
use Rattle.chw_typing.proofs.Heads.{functions_of_terms}
use Rattle.chw_typing.proofs.Kinded.{term_type, function_parts, function_takes, bound_part, typed_under, typed_more, bound_typed, type_kinded}
use Rattle.chw_typing.proofs.OneType.{put_same_of_kinds}
use Rattle.chw_typing.proofs.Patterns.{are_of_terms, binds_same, looked_at_same}
use Rattle.chw_typing.proofs.SameScopes.{are_same_self, same_more, same_under_binder, same_at}
use Rattle.chw_typing.proofs.TermsPut.{kind_same}
use Rattle.chw_typing.proofs.EvaluatedTypes.{same_evaluated, kind_evaluated}

declared_same : (g : Group) → AreSame (declared g) (declared (evaluated_in_group g))
unfolding evaluated_in
declared_same no_bindings = tt
declared_same (bind t e g) = (same_evaluated t, declared_same g)

count_evaluated : (es : Terms) → count (evaluated_in_all es) ≡ count es
unfolding evaluated_in
count_evaluated no_terms = refl
count_evaluated (term_and e es) = ap suc (count_evaluated es)

hides_none_evaluated : (q : Pattern) (alts : Alts) → HidesNone q alts → HidesNone q (evaluated_in_alts alts)
unfolding evaluated_in
hides_none_evaluated q no_alts h = tt
hides_none_evaluated q (alt r e more) h = (h.0, hides_none_evaluated q more h.1)

none_hidden_evaluated : (alts : Alts) → NoneHidden alts → NoneHidden (evaluated_in_alts alts)
unfolding evaluated_in
none_hidden_evaluated no_alts h = tt
none_hidden_evaluated (alt q e more) h = (hides_none_evaluated q more h.0, none_hidden_evaluated more h.1)

bound_evaluated_typed : {s : Setting} {kinds : List Kind} {vars : List TypeTree} {k : Kind} {g : Group} → AreBound s kinds vars k g → AreTermTypes s kinds (declared (evaluated_in_group g))
unfolding evaluated_in
bound_evaluated_typed none_bound = tt
bound_evaluated_typed {s} {kinds} (bound_and {j = j} {k = k} {t = t} d h e m b) = (term_type s kinds (evaluated t) j (kind_evaluated d) (functions_of_terms j k h).0, bound_evaluated_typed b)

mutual
  unfolding evaluated_in

  pub type_evaluated : {s : Setting} {kinds : List Kind} {vars : List TypeTree} {e : TermTree} {t : TypeTree} → HasType s kinds vars e t → IsSound s → AreTermTypes s kinds vars → (vars' : List TypeTree) → AreTermTypes s kinds vars' → AreSame vars vars' → HasTypeUpTo s kinds vars' (evaluated_in e) t
  type_evaluated {vars = vars} (h_var {x = x} {t = t} e) h g vars' g' q = let at = same_at vars vars' x t q e in record { type = at.0; has = h_var at.1; same = at.2 }
  type_evaluated (h_global {t = t} e) h g vars' g' q = record { type = t; has = h_global e; same = same_self t }
  type_evaluated (h_made {t = t} e) h g vars' g' q = record { type = t; has = h_made e; same = same_self t }
  type_evaluated {s} {kinds} (h_lam {a = a} {b = b} {k = k} d l) h g vars' g' q =
      let takes = function_takes s kinds a b k l in
      let parts = function_parts l in
      let scope : AreTermTypes s kinds (evaluated a ∷ vars') = (term_type s kinds (evaluated a) takes.kind (kind_evaluated takes.has) takes.of_terms, g') in
      let body = type_evaluated d h (takes, g) (evaluated a ∷ vars') scope (same_evaluated a, q) in
      record {
        type = fun (evaluated a) body.type;
        has = h_lam body.has (kind_fun (kind_evaluated parts.1) (kind_same s kinds b body.type k parts.2 (type_kinded body.has h scope) body.same) parts.3);
        same = same_fun (same_evaluated a) body.same;
      }
  type_evaluated {s} {kinds} (h_app {f = f} d e x) h g vars' g' q =
      let of = type_evaluated d h g vars' g' q in
      let arg = type_evaluated e h g vars' g' q in
      let at = as_function of.same in
      record { type = at.1; has = h_app (subst (HasType s kinds vars' (evaluated_in f)) at.2 of.has) arg.has (same_through (same_turned at.3) (same_through x arg.same)); same = at.4 }
  type_evaluated {s} {kinds} {vars} (h_ty_lam {j = j} d) h g vars' g' q =
      let body = type_evaluated d h (typed_under s kinds j vars g) (under_binder vars') (typed_under s kinds j vars' g') (same_under_binder vars vars' q) in
      record { type = for_all j body.type; has = h_ty_lam body.has; same = same_for_all body.same }
  type_evaluated {s} {kinds} (h_ty_app {j = j} {a = a} {u = u} {f = f} d l x m) h g vars' g' q =
      let of = type_evaluated d h g vars' g' q in
      let at = as_bound of.same in
      let has = subst (HasType s kinds vars' (evaluated_in f)) at.1 of.has in
      let part = put_same_of_kinds j (are_of_terms s h) (bound_part (type_kinded d h g).has).0 (bound_part (type_kinded has h g').has).0 l at.2 (same_evaluated a) in
      record { type = u; has = h_ty_app has (kind_evaluated l) (same_through (same_turned part) x) m; same = same_self u }
  type_evaluated {s} {kinds} {vars} (h_letrec {g = b} {t = t} {k = k} d l bs) h g vars' g' q =
      let new = declared (evaluated_in_group b) in
      let inner = typed_more s kinds (declared b) vars (bound_typed bs) g in
      let scope = typed_more s kinds new vars' (bound_evaluated_typed bs) g' in
      let more = same_more (declared b) new vars vars' (declared_same b) q in
      let body = type_evaluated d h inner (with_more new vars') scope more in
      record {
        type = body.type;
        has = h_letrec body.has (kind_same s kinds t body.type k l (type_kinded body.has h scope) body.same) (bound_evaluated bs h inner (with_more new vars') scope more);
        same = body.same;
      }
  type_evaluated (h_con e) h g vars' g' q = record { type = _; has = h_con e; same = same_self _ }
  type_evaluated h_prim h g vars' g' q = record { type = _; has = h_prim; same = same_self _ }
  type_evaluated (h_lit l) h g vars' g' q = record { type = _; has = h_lit l; same = same_self _ }
  type_evaluated {s} {kinds} (h_vec {t = t} {es = es} k d) h g vars' g' q =
      let typed = term_type s kinds (evaluated t) k.kind (kind_evaluated k.has) k.of_terms in
      record {
        type = vector (nat_lit (count es)) (evaluated t);
        has = subst (λ n. HasType s kinds vars' (vec_lit (evaluated t) (evaluated_in_all es)) (vector (nat_lit n) (evaluated t))) (count_evaluated es) (h_vec typed (all_have_evaluated d h g vars' g' q));
        same = same_vector (same_self (nat_lit (count es))) (same_evaluated t);
      }
  type_evaluated {s} {kinds} {vars} (h_case {bound = bound} {q = p} {more = more} {u = u} {t = t} {f = f} {j = j} {k = k} d i l b e m a o n) h g vars' g' q =
      let on = type_evaluated d h g vars' g' q in
      let scope = typed_more s kinds bound vars' b.typed g' in
      let body = type_evaluated e h (typed_more s kinds bound vars b.typed g) (with_more bound vars') scope (same_more bound bound vars vars' (are_same_self bound) q) in
      record {
        type = body.type;
        has = h_case on.has (looked_at_same u on.type i on.same) (kind_same s kinds u on.type j l (type_kinded on.has h g') on.same) (binds_same b h j on.type l on.same)
            body.has (kind_same s kinds t body.type k m (type_kinded body.has h scope) body.same) a
            (all_give_evaluated o h g vars' g' q j on.type body.type l on.same body.same) (none_hidden_evaluated (alt p f more) n);
        same = body.same;
      }

  bound_evaluated : {s : Setting} {kinds : List Kind} {vars : List TypeTree} {k : Kind} {b : Group} → AreBound s kinds vars k b → IsSound s → AreTermTypes s kinds vars → (vars' : List TypeTree) → AreTermTypes s kinds vars' → AreSame vars vars' → AreBound s kinds vars' k (evaluated_in_group b)
  bound_evaluated none_bound h g vars' g' q = none_bound
  bound_evaluated (bound_and {t = t} l f d x b) h g vars' g' q =
      let of = type_evaluated d h g vars' g' q in
      bound_and (kind_evaluated l) f of.has (same_through (same_turned (same_evaluated t)) (same_through x of.same)) (bound_evaluated b h g vars' g' q)

  all_have_evaluated : {s : Setting} {kinds : List Kind} {vars : List TypeTree} {t : TypeTree} {es : Terms} → AllHave s kinds vars t es → IsSound s → AreTermTypes s kinds vars → (vars' : List TypeTree) → AreTermTypes s kinds vars' → AreSame vars vars' → AllHave s kinds vars' (evaluated t) (evaluated_in_all es)
  all_have_evaluated none_have h g vars' g' q = none_have
  all_have_evaluated (have_and {t = t} d x ds) h g vars' g' q =
      let of = type_evaluated d h g vars' g' q in
      have_and of.has (same_through (same_turned (same_evaluated t)) (same_through x of.same)) (all_have_evaluated ds h g vars' g' q)

  -- the scrutinee and the first alternative may now have other types that are the same
  all_give_evaluated : {s : Setting} {kinds : List Kind} {vars : List TypeTree} {u t : TypeTree} {alts : Alts} → AllGive s kinds vars u t alts → IsSound s → AreTermTypes s kinds vars → (vars' : List TypeTree) → AreTermTypes s kinds vars' → AreSame vars vars' → (j : Kind) (u' t' : TypeTree) → HasKind s kinds u j → SameTypes u u' → SameTypes t t' → AllGive s kinds vars' u' t' (evaluated_in_alts alts)
  all_give_evaluated none_give h g vars' g' q j u' t' l x y = none_give
  all_give_evaluated {s} {kinds} {vars} (give_and {bound = bound} b d z ds) h g vars' g' q j u' t' l x y =
      let scope = typed_more s kinds bound vars' b.typed g' in
      let body = type_evaluated d h (typed_more s kinds bound vars b.typed g) (with_more bound vars') scope (same_more bound bound vars vars' (are_same_self bound) q) in
      give_and (binds_same b h j u' l x) body.has (same_through (same_turned y) (same_through z body.same)) (all_give_evaluated ds h g vars' g' q j u' t' l x y)
