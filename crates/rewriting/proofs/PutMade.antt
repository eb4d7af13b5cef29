-- Types are kept, up to naturals, where terms of their types are put for the made definitions.
use Rattle.std.proofs.Common.{◌≡◌, ℕ, suc, refl, sym, ap, subst, List, [], ◌∷◌}
use Rattle.chw_types.specs.declared.kind.Kind.{Kind}
use Rattle.chw_types.specs.TypeTree.{TypeTree, nat_lit, vector, fun, for_all}
use Rattle.chw_types.specs.Kinds.{kind_fun}
use Rattle.chw_types.specs.SameTypes.{SameTypes, same_fun, same_for_all}
use Rattle.chw_types.proofs.SameLaws.{same_self, same_turned, same_through}
use Rattle.chw_terms.specs.declared.term.Pattern.{Pattern}
use Rattle.chw_terms.specs.TermTree.{TermTree, vec_lit, Terms, no_terms, term_and, Group, no_bindings, bind, Alts, no_alts, alt}
use Rattle.type_laws.proofs.SameForms.{as_function, as_bound}
use Rattle.chw_typing.specs.Scopes.{Setting, HasKind, IsTermType, AreTermTypes, with_more, declared}
use Rattle.chw_typing.specs.Programs.{IsSound}
use Rattle.chw_typing.specs.Typing.{count, Binds, HasType, h_var, h_global, h_made, h_lam, h_app, h_ty_lam, h_ty_app, h_letrec, h_con, h_prim, h_lit, h_vec, h_case, AreBound, none_bound, bound_and, AllHave, none_have, have_and, AllGive, none_give, give_and, HasTypeUpTo}
use Rattle.chw_typing.proofs.Kinded.{function_parts, function_takes, bound_part, typed_under, typed_more, bound_typed, type_kinded}
use Rattle.chw_typing.proofs.Patterns.{are_of_terms, binds_same, looked_at_same}
use Rattle.chw_typing.proofs.OneType.{put_same_of_kinds}
use Rattle.chw_typing.proofs.TermsPut.{kind_same}
use Rattle.chw_typing.specs.Groups.{patterns}
use Rattle.chw_typing.proofs.GroupParts.{none_hidden_by}
use Rattle.chw_typing.proofs.Lowered.{closed_typed}
use Rattle.rewriting.specs.SceneLaws.{with_only_made, AreOfMade}
use Rattle.rewriting.specs.Origins.{with_origins, with_origins_all, with_origins_group, with_origins_alts}

declared_kept : (o : ℕ → TermTree) (g : Group) → declared (with_origins_group o g) ≡ declared g
unfolding with_origins
declared_kept o no_bindings = refl
declared_kept o (bind t e g) = ap (λ ts. t ∷ ts) (declared_kept o g)

count_kept : (o : ℕ → TermTree) (es : Terms) → count (with_origins_all o es) ≡ count es
unfolding with_origins
count_kept o no_terms = refl
count_kept o (term_and e es) = ap suc (count_kept o es)

patterns_kept : (o : ℕ → TermTree) (alts : Alts) → patterns (with_origins_alts o alts) ≡ patterns alts
unfolding with_origins
patterns_kept o no_alts = refl
patterns_kept o (alt q e more) = ap (λ qs. q ∷ qs) (patterns_kept o more)

-- types have the same kinds beside other made definitions
pub moved_one : (s : Setting) (types : List TypeTree) (kinds : List Kind) (t : TypeTree) → IsTermType s kinds t → IsTermType (with_only_made s types) kinds t
moved_one s types kinds t h = record { kind = h.kind; has = h.has; of_terms = h.of_terms }

moved : (s : Setting) (types : List TypeTree) (kinds : List Kind) (ts : List TypeTree) → AreTermTypes s kinds ts → AreTermTypes (with_only_made s types) kinds ts
moved s types kinds [] h = tt
moved s types kinds (t ∷ ts) h = (moved_one s types kinds t h.0, moved s types kinds ts h.1)

moved_binds : (s : Setting) (types : List TypeTree) (kinds : List Kind) (u : TypeTree) (q : Pattern) (bound : List TypeTree) → Binds s kinds u q bound → Binds (with_only_made s types) kinds u q bound
moved_binds s types kinds u q bound b = record { fields = b.fields; pattern = b.pattern; same = b.same; typed = moved s types kinds bound b.typed }

mutual
  unfolding with_origins

  pub made_put : {s : Setting} {kinds : List Kind} {vars : List TypeTree} {e : TermTree} {t : TypeTree} → HasType s kinds vars e t → IsSound s → (types : List TypeTree) → IsSound (with_only_made s types) → (o : ℕ → TermTree) → AreOfMade s (with_only_made s types) o → AreTermTypes s kinds vars → HasTypeUpTo (with_only_made s types) kinds vars (with_origins o e) t
  made_put (h_var {t = t} e) h types h' o p g = record { type = t; has = h_var e; same = same_self t }
  made_put (h_global {t = t} e) h types h' o p g = record { type = t; has = h_global e; same = same_self t }
  made_put {s} {kinds} {vars} (h_made {m = m} {t = t} e) h types h' o p g =
      let of = p m t e in record { type = of.type; has = closed_typed (with_only_made s types) kinds vars (o m) of.type h' of.has; same = of.same }
  made_put {s} {kinds} {vars} (h_lam {a = a} {b = b} {k = k} d l) h types h' o p g =
      let takes = function_takes s kinds a b k l in
      let parts = function_parts l in
      let body = made_put d h types h' o p (takes, g) in
      record {
        type = fun a body.type;
        has = h_lam body.has (kind_fun parts.1 (kind_same (with_only_made s types) kinds b body.type k parts.2 (type_kinded body.has h' (moved s types kinds (a ∷ vars) (takes, g))) body.same) parts.3);
        same = same_fun (same_self a) body.same;
      }
  made_put {s} {kinds} {vars} (h_app {f = f} d e x) h types h' o p g =
      let of = made_put d h types h' o p g in
      let arg = made_put e h types h' o p g in
      let at = as_function of.same in
      record { type = at.1; has = h_app (subst (HasType (with_only_made s types) kinds vars (with_origins o f)) at.2 of.has) arg.has (same_through (same_turned at.3) (same_through x arg.same)); same = at.4 }
  made_put {s} {kinds} {vars} (h_ty_lam {j = j} d) h types h' o p g =
      let body = made_put d h types h' o p (typed_under s kinds j vars g) in
      record { type = for_all j body.type; has = h_ty_lam body.has; same = same_for_all body.same }
  made_put {s} {kinds} {vars} (h_ty_app {j = j} {a = a} {u = u} {f = f} d l x m) h types h' o p g =
      let of = made_put d h types h' o p g in
      let at = as_bound of.same in
      let has = subst (HasType (with_only_made s types) kinds vars (with_origins o f)) at.1 of.has in
      let part = put_same_of_kinds j (are_of_terms s h) (bound_part (type_kinded d h g).has).0 (bound_part (type_kinded has h' (moved s types kinds vars g)).has).0 l at.2 (same_self a) in
      record { type = u; has = h_ty_app has l (same_through (same_turned part) x) m; same = same_self u }
  made_put {s} {kinds} {vars} (h_letrec {g = b} {e = e} {t = t} {k = k} d l bs) h types h' o p g =
      let inner = typed_more s kinds (declared b) vars (bound_typed bs) g in
      let same = sym (declared_kept o b) in
      let body = made_put d h types h' o p inner in
      record {
        type = body.type;
        has = h_letrec
            (subst (λ ts. HasType (with_only_made s types) kinds (with_more ts vars) (with_origins o e) body.type) same body.has)
            (kind_same (with_only_made s types) kinds t body.type k l (type_kinded body.has h' (moved s types kinds (with_more (declared b) vars) inner)) body.same)
            (subst (λ ts. AreBound (with_only_made s types) kinds (with_more ts vars) k (with_origins_group o b)) same (made_put_group bs h types h' o p inner));
        same = body.same;
      }
  made_put (h_con e) h types h' o p g = record { type = _; has = h_con e; same = same_self _ }
  made_put h_prim h types h' o p g = record { type = _; has = h_prim; same = same_self _ }
  made_put (h_lit l) h types h' o p g = record { type = _; has = h_lit l; same = same_self _ }
  made_put {s} {kinds} {vars} (h_vec {t = t} {es = es} k d) h types h' o p g =
      record {
        type = vector (nat_lit (count es)) t;
        has = subst (λ n. HasType (with_only_made s types) kinds vars (vec_lit t (with_origins_all o es)) (vector (nat_lit n) t)) (count_kept o es) (h_vec (moved_one s types kinds t k) (made_put_all d h types h' o p g));
        same = same_self _;
      }
  made_put {s} {kinds} {vars} (h_case {bound = bound} {q = q} {more = more} {u = u} {t = t} {f = f} {j = j} {k = k} d i l b e m a rest n) h types h' o p g =
      let on = made_put d h types h' o p g in
      let scope = typed_more s kinds bound vars b.typed g in
      let body = made_put e h types h' o p scope in
      record {
        type = body.type;
        has = h_case on.has (looked_at_same u on.type i on.same) (kind_same (with_only_made s types) kinds u on.type j l (type_kinded on.has h' (moved s types kinds vars g)) on.same) (moved_binds s types kinds on.type q bound (binds_same b h j on.type l on.same))
            body.has (kind_same (with_only_made s types) kinds t body.type k m (type_kinded body.has h' (moved s types kinds (with_more bound vars) scope)) body.same) a
            (made_put_alts rest h types h' o p g j on.type body.type l on.same body.same)
            (none_hidden_by (alt q f more) (with_origins_alts o (alt q f more)) (sym (patterns_kept o (alt q f more))) n);
        same = body.same;
      }

  made_put_group : {s : Setting} {kinds : List Kind} {vars : List TypeTree} {k : Kind} {b : Group} → AreBound s kinds vars k b → IsSound s → (types : List TypeTree) → IsSound (with_only_made s types) → (o : ℕ → TermTree) → AreOfMade s (with_only_made s types) o → AreTermTypes s kinds vars → AreBound (with_only_made s types) kinds vars k (with_origins_group o b)
  made_put_group none_bound h types h' o p g = none_bound
  made_put_group (bound_and l f d x b) h types h' o p g =
      let of = made_put d h types h' o p g in
      bound_and l f of.has (same_through x of.same) (made_put_group b h types h' o p g)

  made_put_all : {s : Setting} {kinds : List Kind} {vars : List TypeTree} {t : TypeTree} {es : Terms} → AllHave s kinds vars t es → IsSound s → (types : List TypeTree) → IsSound (with_only_made s types) → (o : ℕ → TermTree) → AreOfMade s (with_only_made s types) o → AreTermTypes s kinds vars → AllHave (with_only_made s types) kinds vars t (with_origins_all o es)
  made_put_all none_have h types h' o p g = none_have
  made_put_all (have_and d x ds) h types h' o p g =
      let of = made_put d h types h' o p g in
      have_and of.has (same_through x of.same) (made_put_all ds h types h' o p g)

  -- the scrutinee and the first alternative may now have other types that are the same
  made_put_alts : {s : Setting} {kinds : List Kind} {vars : List TypeTree} {u t : TypeTree} {alts : Alts} → AllGive s kinds vars u t alts → IsSound s → (types : List TypeTree) → IsSound (with_only_made s types) → (o : ℕ → TermTree) → AreOfMade s (with_only_made s types) o → AreTermTypes s kinds vars → (j : Kind) (u' t' : TypeTree) → HasKind s kinds u j → SameTypes u u' → SameTypes t t' → AllGive (with_only_made s types) kinds vars u' t' (with_origins_alts o alts)
  made_put_alts none_give h types h' o p g j u' t' l x y = none_give
  made_put_alts {s} {kinds} {vars} (give_and {bound = bound} {q = q} b d z ds) h types h' o p g j u' t' l x y =
      let body = made_put d h types h' o p (typed_more s kinds bound vars b.typed g) in
      give_and (moved_binds s types kinds u' q bound (binds_same b h j u' l x)) body.has (same_through (same_turned y) (same_through z body.same)) (made_put_alts ds h types h' o p g j u' t' l x y)
