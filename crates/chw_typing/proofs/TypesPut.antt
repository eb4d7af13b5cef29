-- Types are kept where types are put for type variables.
use Rattle.std.proofs.Common.{◌≡◌, ℕ, suc, zero, ◌≤◌, ◌⊎◌, inl, inr, true, refl, sym, ap, ◌∙◌, subst, List, [], ◌∷◌, ◌++◌, map, reverse, arith}
use Rattle.std.specs.Prelude.{Some}
use Rattle.std.specs.List.{slice_get}
use Rattle.std.proofs.lemmas.List.{map-append}
use Rattle.chw_types.specs.declared.kind.Kind.{Kind}
use Rattle.chw_types.specs.declared.kind.Kind.TheVariants.{Nat}
use Rattle.chw_types.specs.declared.declarations.Data.{Data}
use Rattle.chw_types.specs.TypeTree.{TypeTree, ty_var, nat_lit, nat_sum, nat_product, domain, scalar, vector, data_of, fun, signal, for_all, TypeTrees}
use Rattle.chw_types.specs.TypeMoves.{Substitution, up, sub, sub_all, put_at, put}
use Rattle.chw_types.specs.Arguments.{arguments}
use Rattle.chw_types.specs.Kinds.{KindOf, kind_var, kind_nat, kind_scalar, KindsOf}
use Rattle.chw_types.specs.Polynomials.{is_natural}
use Rattle.chw_types.specs.SameTypes.{SameTypes}
use Rattle.chw_types.proofs.KindsKept.{kind_renamed, kind_put, degree_renamed}
use Rattle.chw_types.proofs.SameLaws.{same_self}
use Rattle.chw_terms.specs.declared.term.Pattern.{Pattern}
use Rattle.chw_terms.specs.TermTree.{TermTree, global, made, con, prim, vec_lit, Terms, no_terms, term_and, Group, no_bindings, bind, Alts, no_alts, alt}
use Rattle.chw_terms.specs.TypesMoved.{sub_types, sub_types_all, sub_types_group, sub_types_alts}
use Rattle.type_laws.specs.Standing.{InSums}
use Rattle.type_laws.proofs.KindsExact.{put_at_kinds}
use Rattle.type_laws.proofs.OneKind.{nat_natural, sums_kind}
use Rattle.type_laws.proofs.PutSame.{same_put}
use Rattle.chw_typing.specs.Scopes.{Setting, HasKind, IsTermType, AreTermTypes, AreSame, under_binder, with_more, declared}
use Rattle.chw_typing.specs.HeadTypes.{IsLookedAt, PatternOf, of_con, of_lit, of_any}
use Rattle.chw_typing.specs.Alternatives.{HidesNone, NoneHidden}
use Rattle.chw_typing.specs.Programs.{IsSound}
use Rattle.chw_typing.specs.Typing.{count, Binds, HasType, h_var, h_global, h_made, h_lam, h_app, h_ty_lam, h_ty_app, h_letrec, h_con, h_prim, h_lit, h_vec, h_case, AreBound, none_bound, bound_and, AllHave, none_have, have_and, AllGive, none_give, give_and}
use Rattle.chw_typing.specs.Laws.{PutsTypes}
use Rattle.chw_typing.proofs.Lists.{found_in_map, map_reverse}
use Rattle.chw_typing.proofs.Heads.{con_kind}
use Rattle.chw_typing.proofs.Kinded.{term_type, function_takes, bound_part, typed_under, typed_more, bound_typed, schema_kind, type_kinded}
use Rattle.chw_typing.proofs.Patterns.{are_of_terms, fields_typed, constructor_arguments, AllSumsAreNat, typed_sums, pattern_sums}
use Rattle.chw_typing.proofs.PutKinds.{SumsAreNat, sums_put}
use Rattle.chw_typing.proofs.PutAgreeing.{closed_put, put_shifted, put_into, field_put}

puts_under : (s : Setting) (σ : Substitution) (kinds kinds' : List Kind) (j : Kind) → PutsTypes s σ kinds kinds' → PutsTypes s (up σ) (j ∷ kinds) (j ∷ kinds')
unfolding up
puts_under s σ kinds kinds' j h zero k e = (kind_var e, omega arith)
puts_under s σ kinds kinds' j h (suc x) k e =
    let at = h x k e in
    (kind_renamed at.0 suc (j ∷ kinds') (λ y i f. f), subst (λ n. n ≤ 1) (sym (degree_renamed (σ x) suc)) at.1)

-- types that are the same stay so
same_if_nat : (s : Setting) (σ : Substitution) (kinds kinds' : List Kind) (t u : TypeTree) → IsSound s → PutsTypes s σ kinds kinds' → SumsAreNat kinds t → SumsAreNat kinds u → SameTypes t u → SameTypes (sub t σ) (sub u σ)
same_if_nat s σ kinds kinds' t u h p f g x = same_put x σ σ (λ y. same_self (σ y)) natural
  where
    natural : (y : ℕ) → InSums t y ⊎ InSums u y → is_natural (σ y) ≡ true
    natural y (inl z) = nat_natural (are_of_terms s h) (p y Nat (f y z)).0 refl
    natural y (inr z) = nat_natural (are_of_terms s h) (p y Nat (g y z)).0 refl

same_typed : (s : Setting) (σ : Substitution) (kinds kinds' : List Kind) (t u : TypeTree) (i k : Kind) → IsSound s → PutsTypes s σ kinds kinds' → HasKind s kinds t i → HasKind s kinds u k → SameTypes t u → SameTypes (sub t σ) (sub u σ)
same_typed s σ kinds kinds' t u i k h p d e x = same_if_nat s σ kinds kinds' t u h p (sums_kind d) (sums_kind e) x

all_same_put : (s : Setting) (σ : Substitution) (kinds kinds' : List Kind) (ts us : List TypeTree) → IsSound s → PutsTypes s σ kinds kinds' → AllSumsAreNat kinds ts → AllSumsAreNat kinds us → AreSame ts us → AreSame (map (λ t. sub t σ) ts) (map (λ t. sub t σ) us)
all_same_put s σ kinds kinds' [] [] h p f g x = tt
all_same_put s σ kinds kinds' (t ∷ ts) (u ∷ us) h p f g x = (same_if_nat s σ kinds kinds' t u h p f.0 g.0 x.0, all_same_put s σ kinds kinds' ts us h p f.1 g.1 x.1)
all_same_put s σ kinds kinds' [] (u ∷ us) h p f g x = absurd x
all_same_put s σ kinds kinds' (t ∷ ts) [] h p f g x = absurd x

put_typed : (s : Setting) (σ : Substitution) (kinds kinds' : List Kind) (t : TypeTree) → PutsTypes s σ kinds kinds' → IsTermType s kinds t → IsTermType s kinds' (sub t σ)
put_typed s σ kinds kinds' t p d = term_type s kinds' (sub t σ) d.kind (kind_put d.has σ kinds' p) d.of_terms

pub all_put_typed : (s : Setting) (σ : Substitution) (kinds kinds' : List Kind) (ts : List TypeTree) → PutsTypes s σ kinds kinds' → AreTermTypes s kinds ts → AreTermTypes s kinds' (map (λ t. sub t σ) ts)
all_put_typed s σ kinds kinds' [] p d = tt
all_put_typed s σ kinds kinds' (t ∷ ts) p d = (put_typed s σ kinds kinds' t p d.0, all_put_typed s σ kinds kinds' ts p d.1)

under_put : (vars : List TypeTree) (σ : Substitution) → under_binder (map (λ t. sub t σ) vars) ≡ map (λ t. sub t (up σ)) (under_binder vars)
under_put [] σ = refl
under_put (t ∷ vars) σ = λ i. put_shifted t σ i ∷ under_put vars σ i

more_put : (new vars : List TypeTree) (σ : Substitution) → map (λ t. sub t σ) (with_more new vars) ≡ with_more (map (λ t. sub t σ) new) (map (λ t. sub t σ) vars)
more_put new vars σ = map-append (λ t. sub t σ) (reverse new) vars ∙ ap (λ ts. ts ++ map (λ t. sub t σ) vars) (map_reverse (λ t. sub t σ) new)

declared_put : (g : Group) (σ : Substitution) → map (λ t. sub t σ) (declared g) ≡ declared (sub_types_group g σ)
unfolding sub_types
declared_put no_bindings σ = refl
declared_put (bind t e g) σ = ap (λ ts. sub t σ ∷ ts) (declared_put g σ)

count_put : (es : Terms) (σ : Substitution) → count (sub_types_all es σ) ≡ count es
unfolding sub_types
count_put no_terms σ = refl
count_put (term_and e es) σ = ap suc (count_put es σ)

hides_none_put : (q : Pattern) (alts : Alts) (σ : Substitution) → HidesNone q alts → HidesNone q (sub_types_alts alts σ)
unfolding sub_types
hides_none_put q no_alts σ h = tt
hides_none_put q (alt r e more) σ h = (h.0, hides_none_put q more σ h.1)

none_hidden_put : (alts : Alts) (σ : Substitution) → NoneHidden alts → NoneHidden (sub_types_alts alts σ)
unfolding sub_types
none_hidden_put no_alts σ h = tt
none_hidden_put (alt q e more) σ h = (hides_none_put q more σ h.0, none_hidden_put more σ h.1)

looked_at_put : (u : TypeTree) (σ : Substitution) → IsLookedAt u → IsLookedAt (sub u σ)
unfolding sub
looked_at_put (scalar s w) σ h = tt
looked_at_put (data_of d ts) σ h = tt
looked_at_put (ty_var x) σ h = absurd h
looked_at_put (nat_lit n) σ h = absurd h
looked_at_put (nat_sum a b) σ h = absurd h
looked_at_put (nat_product a b) σ h = absurd h
looked_at_put (domain d) σ h = absurd h
looked_at_put (vector n t) σ h = absurd h
looked_at_put (fun a b) σ h = absurd h
looked_at_put (signal d t) σ h = absurd h
looked_at_put (for_all k t) σ h = absurd h

width_kind : {datas : List Data} {domains : ℕ} {scope : List Kind} {s : _} {w : TypeTree} {k : Kind} → KindOf datas domains scope (scalar s w) k → KindOf datas domains scope w Nat
width_kind (kind_scalar d) = d

fields_put : (datas : List Data) (domains : ℕ) (scope params : List Kind) (fs : List TypeTree) (ts : TypeTrees) (σ : Substitution) → ((i : ℕ) (f : TypeTree) → slice_get fs i ≡ Some f → (k : Kind) × KindOf datas domains (reverse params) f k) → KindsOf datas domains scope ts params → map (λ f. sub f (arguments (sub_all ts σ))) fs ≡ map (λ t. sub t σ) (map (λ f. sub f (arguments ts)) fs)
fields_put datas domains scope params [] ts σ h d = refl
fields_put datas domains scope params (f ∷ fs) ts σ h d =
    λ i. sym (field_put (h 0 f refl).1 d σ) i ∷ fields_put datas domains scope params fs ts σ (λ n g e. h (suc n) g e) d i

pattern_put : {s : Setting} {u : TypeTree} {q : Pattern} {bound : List TypeTree} → PatternOf s.datas u q bound → (kinds kinds' : List Kind) (j : Kind) (σ : Substitution) → IsSound s → PutsTypes s σ kinds kinds' → HasKind s kinds u j → PatternOf s.datas (sub u σ) q (map (λ t. sub t σ) bound)
unfolding sub
pattern_put {s} (of_con {d = d} {n = n} {c = c} {ts = ts} it e o m) kinds kinds' j σ h p k =
    subst (PatternOf s.datas (data_of d (sub_all ts σ)) _) (fields_put s.datas s.domains kinds it.it.params it.decl.fields ts σ (λ i f g.
    let typed = fields_typed s c.number it h e i f g in
    (typed.kind, typed.has)) (constructor_arguments s kinds c.number d it ts j e o k)) (of_con it e o m)
pattern_put {s} (of_lit {w = w} l x) kinds kinds' j σ h p k = of_lit l (same_typed s σ kinds kinds' w (nat_lit _) Nat Nat h p (width_kind k) kind_nat x)
pattern_put of_any kinds kinds' j σ h p k = of_any

binds_put : {s : Setting} {kinds : List Kind} {u : TypeTree} {q : Pattern} {bound : List TypeTree} → Binds s kinds u q bound → (kinds' : List Kind) (j : Kind) (σ : Substitution) → IsSound s → PutsTypes s σ kinds kinds' → HasKind s kinds u j → Binds s kinds' (sub u σ) q (map (λ t. sub t σ) bound)
binds_put {s} {kinds} {bound = bound} b kinds' j σ h p k =
    record {
      fields = map (λ t. sub t σ) b.fields;
      pattern = pattern_put b.pattern kinds kinds' j σ h p k;
      same = all_same_put s σ kinds kinds' b.fields bound h p (pattern_sums b.pattern h kinds j k) (typed_sums s kinds bound b.typed) b.same;
      typed = all_put_typed s σ kinds kinds' bound p b.typed;
    }

mutual
  unfolding sub sub_types

  pub type_put : {s : Setting} {kinds : List Kind} {vars : List TypeTree} {e : TermTree} {t : TypeTree} → HasType s kinds vars e t → IsSound s → AreTermTypes s kinds vars → (σ : Substitution) (kinds' : List Kind) → PutsTypes s σ kinds kinds' → HasType s kinds' (map (λ u. sub u σ) vars) (sub_types e σ) (sub t σ)
  type_put (h_var {vars = vars} {x = x} {t = t} e) h g σ kinds' p = h_var (found_in_map (λ u. sub u σ) vars x t e)
  type_put {s} (h_global {vars = vars} {d = d} {t = t} e) h g σ kinds' p =
      subst (HasType s kinds' (map (λ u. sub u σ) vars) (global d)) (sym (closed_put (h.defs d t e).has σ)) (h_global e)
  type_put {s} (h_made {vars = vars} {m = m} {t = t} e) h g σ kinds' p =
      subst (HasType s kinds' (map (λ u. sub u σ) vars) (made m)) (sym (closed_put (h.made m t e).has σ)) (h_made e)
  type_put {s} {kinds} (h_lam {a = a} {b = b} {k = k} d l) h g σ kinds' p =
      h_lam (type_put d h (function_takes s kinds a b k l, g) σ kinds' p) (kind_put l σ kinds' p)
  type_put {s} {kinds} (h_app {a = a} {b = b} {c = c} d e x) h g σ kinds' p =
      let of = type_kinded d h g in
      let takes = function_takes s kinds a b of.kind of.has in
      let arg = type_kinded e h g in
      h_app (type_put d h g σ kinds' p) (type_put e h g σ kinds' p) (same_typed s σ kinds kinds' a c takes.kind arg.kind h p takes.has arg.has x)
  type_put {s} {kinds} {vars} (h_ty_lam {j = j} {t = t} {e = e} d) h g σ kinds' p =
      h_ty_lam (subst (λ us. HasType s (j ∷ kinds') us (sub_types e (up σ)) (sub t (up σ))) (sym (under_put vars σ)) (type_put d h (typed_under s kinds j vars g) (up σ) (j ∷ kinds') (puts_under s σ kinds kinds' j p)))
  type_put {s} {kinds} {vars} (h_ty_app {j = j} {k = k} {t = t} {a = a} {u = u} d l x m) h g σ kinds' p =
      let of = type_kinded d h g in
      let sums = sums_put (bound_part of.has).0 (put_at 0 a) kinds (put_at_kinds s.datas s.domains [] kinds a j l) in
      h_ty_app (type_put d h g σ kinds' p) (kind_put l σ kinds' p)
      (subst (λ w. SameTypes w (sub u σ)) (put_into t a σ) (same_if_nat s σ kinds kinds' (put t 0 a) u h p sums (sums_kind m) x))
      (kind_put m σ kinds' p)
  type_put {s} {kinds} {vars} (h_letrec {g = b} {e = e} {t = t} {k = k} d l bs) h g σ kinds' p =
      let more = typed_more s kinds (declared b) vars (bound_typed bs) g in
      let same = more_put (declared b) vars σ ∙ ap (λ ts. with_more ts (map (λ u. sub u σ) vars)) (declared_put b σ) in
      h_letrec
      (subst (λ us. HasType s kinds' us (sub_types e σ) (sub t σ)) same (type_put d h more σ kinds' p))
      (kind_put l σ kinds' p)
      (subst (λ us. AreBound s kinds' us k (sub_types_group b σ)) same (bound_put bs h more σ kinds' p))
  type_put {s} (h_con {vars = vars} {c = c} {it = it} e) h g σ kinds' p =
      subst (HasType s kinds' (map (λ u. sub u σ) vars) (con c)) (sym (closed_put (con_kind s c it h e) σ)) (h_con e)
  type_put {s} (h_prim {vars = vars} {p = q}) h g σ kinds' p =
      subst (HasType s kinds' (map (λ u. sub u σ) vars) (prim q)) (sym (closed_put (schema_kind s q h).has σ)) h_prim
  type_put (h_lit l) h g σ kinds' p = h_lit l
  type_put {s} {kinds} {vars} (h_vec {t = t} {es = es} k d) h g σ kinds' p =
      subst (λ n. HasType s kinds' (map (λ u. sub u σ) vars) (vec_lit (sub t σ) (sub_types_all es σ)) (vector (nat_lit n) (sub t σ))) (count_put es σ)
      (h_vec (put_typed s σ kinds kinds' t p k) (all_have_put d h g k σ kinds' p))
  type_put {s} {kinds} {vars} (h_case {bound = bound} {q = q} {more = more} {u = u} {t = t} {f = f} {j = j} {k = k} d i l b e m a o n) h g σ kinds' p =
      h_case (type_put d h g σ kinds' p) (looked_at_put u σ i) (kind_put l σ kinds' p) (binds_put b kinds' j σ h p l)
      (subst (λ us. HasType s kinds' us (sub_types f σ) (sub t σ)) (more_put bound vars σ) (type_put e h (typed_more s kinds bound vars b.typed g) σ kinds' p))
      (kind_put m σ kinds' p) a (all_give_put o h g l m σ kinds' p) (none_hidden_put (alt q f more) σ n)

  pub bound_put : {s : Setting} {kinds : List Kind} {vars : List TypeTree} {k : Kind} {b : Group} → AreBound s kinds vars k b → IsSound s → AreTermTypes s kinds vars → (σ : Substitution) (kinds' : List Kind) → PutsTypes s σ kinds kinds' → AreBound s kinds' (map (λ u. sub u σ) vars) k (sub_types_group b σ)
  bound_put none_bound h g σ kinds' p = none_bound
  bound_put {s} {kinds} (bound_and {j = j} {t = t} {u = u} l f d x b) h g σ kinds' p =
      let of = type_kinded d h g in
      bound_and (kind_put l σ kinds' p) f (type_put d h g σ kinds' p) (same_typed s σ kinds kinds' t u j of.kind h p l of.has x) (bound_put b h g σ kinds' p)

  pub all_have_put : {s : Setting} {kinds : List Kind} {vars : List TypeTree} {t : TypeTree} {es : Terms} → AllHave s kinds vars t es → IsSound s → AreTermTypes s kinds vars → IsTermType s kinds t → (σ : Substitution) (kinds' : List Kind) → PutsTypes s σ kinds kinds' → AllHave s kinds' (map (λ u. sub u σ) vars) (sub t σ) (sub_types_all es σ)
  all_have_put none_have h g k σ kinds' p = none_have
  all_have_put {s} {kinds} (have_and {t = t} {u = u} d x ds) h g k σ kinds' p =
      let of = type_kinded d h g in
      have_and (type_put d h g σ kinds' p) (same_typed s σ kinds kinds' t u k.kind of.kind h p k.has of.has x) (all_have_put ds h g k σ kinds' p)

  pub all_give_put : {s : Setting} {kinds : List Kind} {vars : List TypeTree} {u t : TypeTree} {alts : Alts} {j k : Kind} → AllGive s kinds vars u t alts → IsSound s → AreTermTypes s kinds vars → HasKind s kinds u j → HasKind s kinds t k → (σ : Substitution) (kinds' : List Kind) → PutsTypes s σ kinds kinds' → AllGive s kinds' (map (λ v. sub v σ) vars) (sub u σ) (sub t σ) (sub_types_alts alts σ)
  all_give_put none_give h g l m σ kinds' p = none_give
  all_give_put {s} {kinds} {vars} {j = j} {k = k} (give_and {bound = bound} {t = t} {v = v} {e = e} b d x ds) h g l m σ kinds' p =
      let scope = typed_more s kinds bound vars b.typed g in
      let of = type_kinded d h scope in
      give_and (binds_put b kinds' j σ h p l)
      (subst (λ us. HasType s kinds' us (sub_types e σ) (sub v σ)) (more_put bound vars σ) (type_put d h scope σ kinds' p))
      (same_typed s σ kinds kinds' t v k of.kind h p m of.has x) (all_give_put ds h g l m σ kinds' p)
