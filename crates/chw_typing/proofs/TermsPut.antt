-- Types are kept, up to naturals, where terms of the variables' types up to naturals are put for them.
use Rattle.std.proofs.Common.{◌≡◌, ℕ, suc, zero, refl, sym, ap, ◌∙◌, subst, List, [], ◌∷◌, ◌++◌, length, reverse, arith}
use Rattle.std.proofs.lemmas.List.{length-reverse}
use Rattle.chw_types.specs.declared.kind.Kind.{Kind}
use Rattle.chw_types.specs.TypeTree.{TypeTree, nat_lit, vector, fun, for_all}
use Rattle.chw_types.specs.TypeMoves.{raised, shift}
use Rattle.chw_types.specs.Kinds.{kind_fun}
use Rattle.chw_types.specs.SameTypes.{SameTypes, same_fun, same_for_all}
use Rattle.chw_types.proofs.KindsKept.{renames_shift}
use Rattle.chw_types.proofs.SameLaws.{same_self, same_turned, same_through}
use Rattle.chw_types.proofs.TypeLaws.{same as same_function}
use Rattle.chw_terms.specs.declared.term.Pattern.{Pattern}
use Rattle.chw_terms.specs.TermTree.{TermTree, var, vec_lit, Terms, no_terms, term_and, Group, no_bindings, bind, Alts, no_alts, alt, binders, size_of}
use Rattle.chw_terms.specs.TypesMoved.{rename_types}
use Rattle.chw_terms.specs.TermMoves.{rename, Substitution, up, up_by, under_type, sub, sub_all, sub_group, sub_alts, one, put_at}
use Rattle.type_laws.proofs.OneKind.{same_kind}
use Rattle.type_laws.proofs.PutSame.{same_renamed}
use Rattle.type_laws.proofs.SameForms.{as_function, as_bound}
use Rattle.chw_typing.specs.Scopes.{Setting, HasKind, IsTermType, AreTermTypes, AreSame, under_binder, with_more, declared}
use Rattle.chw_typing.specs.Alternatives.{HidesNone, NoneHidden}
use Rattle.chw_typing.specs.Programs.{IsSound}
use Rattle.chw_typing.specs.Typing.{count, HasType, h_var, h_global, h_made, h_lam, h_app, h_ty_lam, h_ty_app, h_letrec, h_con, h_prim, h_lit, h_vec, h_case, AreBound, none_bound, bound_and, AllHave, none_have, have_and, AllGive, none_give, give_and, HasTypeUpTo}
use Rattle.chw_typing.specs.Laws.{PutsTerms}
use Rattle.chw_typing.proofs.Lists.{found_before_map}
use Rattle.chw_typing.proofs.Kinded.{function_parts, function_takes, bound_part, typed_under, typed_more, bound_typed, type_kinded}
use Rattle.chw_typing.proofs.Patterns.{are_of_terms, binds, binds_same, looked_at_same}
use Rattle.chw_typing.proofs.Renamed.{type_renamed, declared_length}
use Rattle.chw_typing.proofs.OneType.{put_same_of_kinds}
use Rattle.chw_typing.proofs.SameScopes.{same_at}
use Rattle.chw_typing.proofs.TypesRenamed.{types_renamed}

-- with one more variable in scope
one_outside : (s : Setting) (kinds : List Kind) (vars : List TypeTree) (e : TermTree) (t u : TypeTree) → HasTypeUpTo s kinds vars e t → HasTypeUpTo s kinds (u ∷ vars) (rename e suc) t
one_outside s kinds vars e t u d = record { type = d.type; has = type_renamed d.has suc (u ∷ vars) (λ y v f. f); same = d.same }

puts_under : (s : Setting) (kinds : List Kind) (σ : Substitution) (vars vars' : List TypeTree) (t : TypeTree) → PutsTerms s kinds σ vars vars' → PutsTerms s kinds (up σ) (t ∷ vars) (t ∷ vars')
unfolding up
puts_under s kinds σ vars vars' t h zero u e = record { type = u; has = h_var e; same = same_self u }
puts_under s kinds σ vars vars' t h (suc x) u e = one_outside s kinds vars' (σ x) u t (h x u e)

puts_append : (s : Setting) (kinds : List Kind) (new : List TypeTree) (σ : Substitution) (vars vars' : List TypeTree) → PutsTerms s kinds σ vars vars' → PutsTerms s kinds (up_by (length new) σ) (new ++ vars) (new ++ vars')
unfolding up_by
puts_append s kinds [] σ vars vars' h = h
puts_append s kinds (t ∷ new) σ vars vars' h = puts_under s kinds (up_by (length new) σ) (new ++ vars) (new ++ vars') t (puts_append s kinds new σ vars vars' h)

puts_more : (s : Setting) (kinds : List Kind) (new : List TypeTree) (n : ℕ) (σ : Substitution) (vars vars' : List TypeTree) → length new ≡ n → PutsTerms s kinds σ vars vars' → PutsTerms s kinds (up_by n σ) (with_more new vars) (with_more new vars')
puts_more s kinds new n σ vars vars' l h =
    subst (λ m. PutsTerms s kinds (up_by m σ) (with_more new vars) (with_more new vars')) (length-reverse new ∙ l) (puts_append s kinds (reverse new) σ vars vars' h)

one_more : raised 0 1 ≡ (λ x. suc x)
one_more = same_function (raised 0 1) (λ x. suc x) more
  where
    more : (x : ℕ) → raised 0 1 x ≡ suc x
    more x = omega arith

-- under one more type binder
one_type_outside : (s : Setting) (kinds : List Kind) (vars : List TypeTree) (j : Kind) (e : TermTree) (t : TypeTree) → IsSound s → AreTermTypes s kinds vars → HasTypeUpTo s kinds vars e t → HasTypeUpTo s (j ∷ kinds) (under_binder vars) (rename_types e suc) (shift t 0 1)
one_type_outside s kinds vars j e t h g d =
    record {
      type = shift d.type 0 1;
      has = subst (λ ρ. HasType s (j ∷ kinds) (under_binder vars) (rename_types e ρ) (shift d.type 0 1)) one_more (types_renamed d.has h g (raised 0 1) (j ∷ kinds) (renames_shift [] (j ∷ []) kinds));
      same = same_renamed d.same (raised 0 1);
    }

puts_under_type : (s : Setting) (kinds : List Kind) (σ : Substitution) (vars vars' : List TypeTree) (j : Kind) → IsSound s → AreTermTypes s kinds vars' → PutsTerms s kinds σ vars vars' → PutsTerms s (j ∷ kinds) (under_type σ) (under_binder vars) (under_binder vars')
puts_under_type s kinds σ vars vars' j h g p x t e =
    let at = found_before_map (λ t. shift t 0 1) vars x t e in
    subst (HasTypeUpTo s (j ∷ kinds) (under_binder vars') (rename_types (σ x) suc)) at.2 (one_type_outside s kinds vars' j (σ x) at.0 h g (p x at.0 at.1))

pub declared_put : (g : Group) (σ : Substitution) → declared (sub_group g σ) ≡ declared g
unfolding sub
declared_put no_bindings σ = refl
declared_put (bind t e g) σ = ap (λ ts. t ∷ ts) (declared_put g σ)

pub count_put : (es : Terms) (σ : Substitution) → count (sub_all es σ) ≡ count es
unfolding sub
count_put no_terms σ = refl
count_put (term_and e es) σ = ap suc (count_put es σ)

hides_none_put : (q : Pattern) (alts : Alts) (σ : Substitution) → HidesNone q alts → HidesNone q (sub_alts alts σ)
unfolding sub
hides_none_put q no_alts σ h = tt
hides_none_put q (alt r e more) σ h = (h.0, hides_none_put q more σ h.1)

none_hidden_put : (alts : Alts) (σ : Substitution) → NoneHidden alts → NoneHidden (sub_alts alts σ)
unfolding sub
none_hidden_put no_alts σ h = tt
none_hidden_put (alt q e more) σ h = (hides_none_put q more σ h.0, none_hidden_put more σ h.1)

-- a type that is the same as one of this kind has it, if any
pub kind_same : (s : Setting) (kinds : List Kind) (t u : TypeTree) (k : Kind) → HasKind s kinds t k → IsTermType s kinds u → SameTypes t u → HasKind s kinds u k
kind_same s kinds t u k d h x = subst (HasKind s kinds u) (sym (same_kind x d h.has)) h.has

mutual
  unfolding sub

  pub term_put : {s : Setting} {kinds : List Kind} {vars : List TypeTree} {e : TermTree} {t : TypeTree} → HasType s kinds vars e t → IsSound s → AreTermTypes s kinds vars → (σ : Substitution) (vars' : List TypeTree) → AreTermTypes s kinds vars' → PutsTerms s kinds σ vars vars' → HasTypeUpTo s kinds vars' (sub e σ) t
  term_put (h_var {x = x} {t = t} e) h g σ vars' g' p = p x t e
  term_put (h_global {t = t} e) h g σ vars' g' p = record { type = t; has = h_global e; same = same_self t }
  term_put (h_made {t = t} e) h g σ vars' g' p = record { type = t; has = h_made e; same = same_self t }
  term_put {s} {kinds} {vars} (h_lam {a = a} {b = b} {k = k} d l) h g σ vars' g' p =
      let takes = function_takes s kinds a b k l in
      let parts = function_parts l in
      let body = term_put d h (takes, g) (up σ) (a ∷ vars') (takes, g') (puts_under s kinds σ vars vars' a p) in
      record {
        type = fun a body.type;
        has = h_lam body.has (kind_fun parts.1 (kind_same s kinds b body.type k parts.2 (type_kinded body.has h (takes, g')) body.same) parts.3);
        same = same_fun (same_self a) body.same;
      }
  term_put {s} {kinds} (h_app {f = f} d e x) h g σ vars' g' p =
      let of = term_put d h g σ vars' g' p in
      let arg = term_put e h g σ vars' g' p in
      let at = as_function of.same in
      record { type = at.1; has = h_app (subst (HasType s kinds vars' (sub f σ)) at.2 of.has) arg.has (same_through (same_turned at.3) (same_through x arg.same)); same = at.4 }
  term_put {s} {kinds} {vars} (h_ty_lam {j = j} d) h g σ vars' g' p =
      let body = term_put d h (typed_under s kinds j vars g) (under_type σ) (under_binder vars') (typed_under s kinds j vars' g') (puts_under_type s kinds σ vars vars' j h g' p) in
      record { type = for_all j body.type; has = h_ty_lam body.has; same = same_for_all body.same }
  term_put {s} {kinds} (h_ty_app {j = j} {a = a} {u = u} {f = f} d l x m) h g σ vars' g' p =
      let of = term_put d h g σ vars' g' p in
      let at = as_bound of.same in
      let has = subst (HasType s kinds vars' (sub f σ)) at.1 of.has in
      let part = put_same_of_kinds j (are_of_terms s h) (bound_part (type_kinded d h g).has).0 (bound_part (type_kinded has h g').has).0 l at.2 (same_self a) in
      record { type = u; has = h_ty_app has l (same_through (same_turned part) x) m; same = same_self u }
  term_put {s} {kinds} {vars} (h_letrec {g = b} {e = e} {t = t} {k = k} d l bs) h g σ vars' g' p =
      let τ = up_by (size_of b) σ in
      let inner = typed_more s kinds (declared b) vars (bound_typed bs) g in
      let more = typed_more s kinds (declared b) vars' (bound_typed bs) g' in
      let under = puts_more s kinds (declared b) (size_of b) σ vars vars' (declared_length b) p in
      let same = sym (declared_put b τ) in
      let body = term_put d h inner τ (with_more (declared b) vars') more under in
      record {
        type = body.type;
        has = h_letrec
            (subst (λ ts. HasType s kinds (with_more ts vars') (sub e τ) body.type) same body.has)
            (kind_same s kinds t body.type k l (type_kinded body.has h more) body.same)
            (subst (λ ts. AreBound s kinds (with_more ts vars') k (sub_group b τ)) same (bound_put bs h inner τ (with_more (declared b) vars') more under));
        same = body.same;
      }
  term_put (h_con e) h g σ vars' g' p = record { type = _; has = h_con e; same = same_self _ }
  term_put h_prim h g σ vars' g' p = record { type = _; has = h_prim; same = same_self _ }
  term_put (h_lit l) h g σ vars' g' p = record { type = _; has = h_lit l; same = same_self _ }
  term_put {s} {kinds} (h_vec {t = t} {es = es} k d) h g σ vars' g' p =
      record {
        type = vector (nat_lit (count es)) t;
        has = subst (λ n. HasType s kinds vars' (vec_lit t (sub_all es σ)) (vector (nat_lit n) t)) (count_put es σ) (h_vec k (all_have_put d h g σ vars' g' p));
        same = same_self _;
      }
  term_put {s} {kinds} {vars} (h_case {bound = bound} {q = q} {more = more} {u = u} {t = t} {f = f} {j = j} {k = k} d i l b e m a o n) h g σ vars' g' p =
      let on = term_put d h g σ vars' g' p in
      let scope = typed_more s kinds bound vars' b.typed g' in
      let body = term_put e h (typed_more s kinds bound vars b.typed g) (up_by (binders q) σ) (with_more bound vars') scope (puts_more s kinds bound (binders q) σ vars vars' (binds b) p) in
      record {
        type = body.type;
        has = h_case on.has (looked_at_same u on.type i on.same) (kind_same s kinds u on.type j l (type_kinded on.has h g') on.same) (binds_same b h j on.type l on.same)
            body.has (kind_same s kinds t body.type k m (type_kinded body.has h scope) body.same) a
            (all_give_put o h g σ vars' g' p j on.type body.type l on.same body.same) (none_hidden_put (alt q f more) σ n);
        same = body.same;
      }

  pub bound_put : {s : Setting} {kinds : List Kind} {vars : List TypeTree} {k : Kind} {b : Group} → AreBound s kinds vars k b → IsSound s → AreTermTypes s kinds vars → (σ : Substitution) (vars' : List TypeTree) → AreTermTypes s kinds vars' → PutsTerms s kinds σ vars vars' → AreBound s kinds vars' k (sub_group b σ)
  bound_put none_bound h g σ vars' g' p = none_bound
  bound_put (bound_and l f d x b) h g σ vars' g' p =
      let of = term_put d h g σ vars' g' p in
      bound_and l f of.has (same_through x of.same) (bound_put b h g σ vars' g' p)

  pub all_have_put : {s : Setting} {kinds : List Kind} {vars : List TypeTree} {t : TypeTree} {es : Terms} → AllHave s kinds vars t es → IsSound s → AreTermTypes s kinds vars → (σ : Substitution) (vars' : List TypeTree) → AreTermTypes s kinds vars' → PutsTerms s kinds σ vars vars' → AllHave s kinds vars' t (sub_all es σ)
  all_have_put none_have h g σ vars' g' p = none_have
  all_have_put (have_and d x ds) h g σ vars' g' p =
      let of = term_put d h g σ vars' g' p in
      have_and of.has (same_through x of.same) (all_have_put ds h g σ vars' g' p)

  -- the scrutinee and the first alternative may now have other types that are the same
  pub all_give_put : {s : Setting} {kinds : List Kind} {vars : List TypeTree} {u t : TypeTree} {alts : Alts} → AllGive s kinds vars u t alts → IsSound s → AreTermTypes s kinds vars → (σ : Substitution) (vars' : List TypeTree) → AreTermTypes s kinds vars' → PutsTerms s kinds σ vars vars' → (j : Kind) (u' t' : TypeTree) → HasKind s kinds u j → SameTypes u u' → SameTypes t t' → AllGive s kinds vars' u' t' (sub_alts alts σ)
  all_give_put none_give h g σ vars' g' p j u' t' l x y = none_give
  all_give_put {s} {kinds} {vars} (give_and {bound = bound} {q = q} b d z ds) h g σ vars' g' p j u' t' l x y =
      let scope = typed_more s kinds bound vars' b.typed g' in
      let body = term_put d h (typed_more s kinds bound vars b.typed g) (up_by (binders q) σ) (with_more bound vars') scope (puts_more s kinds bound (binders q) σ vars vars' (binds b) p) in
      give_and (binds_same b h j u' l x) body.has (same_through (same_turned y) (same_through z body.same)) (all_give_put ds h g σ vars' g' p j u' t' l x y)

puts_one : (s : Setting) (kinds : List Kind) (outer : List TypeTree) (a : TermTree) (u : TypeTree) → HasTypeUpTo s kinds outer a u → PutsTerms s kinds (one a) (u ∷ outer) outer
puts_one s kinds outer a u d zero t e = let is : u ≡ t = cc in subst (HasTypeUpTo s kinds outer a) is d
puts_one s kinds outer a u d (suc x) t e = record { type = t; has = h_var e; same = same_self t }

-- what a putting takes away
pub puts_put : (s : Setting) (kinds : List Kind) (inner outer : List TypeTree) (a : TermTree) (u : TypeTree) → HasTypeUpTo s kinds outer a u → PutsTerms s kinds (put_at (length inner) a) (inner ++ u ∷ outer) (inner ++ outer)
unfolding put_at up_by
puts_put s kinds [] outer a u d = puts_one s kinds outer a u d
puts_put s kinds (t ∷ inner) outer a u d = puts_under s kinds (put_at (length inner) a) (inner ++ u ∷ outer) (inner ++ outer) t (puts_put s kinds inner outer a u d)

-- the types that are left
pub typed_without : (s : Setting) (kinds : List Kind) (inner outer : List TypeTree) (u : TypeTree) → AreTermTypes s kinds (inner ++ u ∷ outer) → AreTermTypes s kinds (inner ++ outer)
typed_without s kinds [] outer u g = g.1
typed_without s kinds (t ∷ inner) outer u g = (g.0, typed_without s kinds inner outer u g.1)

-- variables of types that are the same, put for each other
pub puts_same : (s : Setting) (kinds : List Kind) (vars vars' : List TypeTree) → AreSame vars vars' → PutsTerms s kinds var vars vars'
puts_same s kinds vars vars' q x t e = let at = same_at vars vars' x t q e in record { type = at.0; has = h_var at.1; same = at.2 }
