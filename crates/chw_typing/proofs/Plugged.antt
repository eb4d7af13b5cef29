-- A term with another part in one place keeps its type, up to naturals.
use Rattle.std.specs.Prelude.{option_map}
use Rattle.std.proofs.Common.{◌≡◌, ℕ, zero, suc, refl, sym, ap, subst, List, ◌∷◌, Some}
use Rattle.chw_types.specs.declared.kind.Kind.{Kind}
use Rattle.chw_types.specs.TypeTree.{TypeTree, nat_lit, vector, fun, for_all}
use Rattle.chw_types.specs.Kinds.{kind_fun}
use Rattle.chw_types.specs.SameTypes.{SameTypes, same_fun, same_for_all}
use Rattle.chw_types.proofs.SameLaws.{same_self, same_turned, same_through}
use Rattle.chw_terms.specs.TermTree.{TermTree, letrec, vec_lit, case_of, Terms, Group, Alts, no_alts, alt}
use Rattle.chw_terms.proofs.TermsPut.{sub_ids}
use Rattle.chw_terms.specs.TermTree.{var}
use Rattle.chw_typing.proofs.GroupParts.{none_hidden_by}
use Rattle.type_laws.proofs.SameForms.{as_function, as_bound}
use Rattle.chw_typing.specs.Scopes.{Setting, HasKind, AreTermTypes, AreSame, with_more, declared}
use Rattle.chw_typing.specs.Programs.{IsSound}
use Rattle.chw_typing.specs.Typing.{count, Binds, HasType, h_lam, h_app, h_ty_lam, h_ty_app, h_letrec, h_vec, h_case, AreBound, HasTypeUpTo}
use Rattle.chw_typing.proofs.Kinded.{function_parts, function_takes, bound_part, typed_under, typed_more, bound_typed, type_kinded}
use Rattle.chw_typing.proofs.Patterns.{are_of_terms, binds_same, looked_at_same, one_binding}
use Rattle.chw_typing.proofs.OneType.{put_same_of_kinds, one_type}
use Rattle.chw_typing.proofs.SameScopes.{are_same_self, are_same_turned, same_more}
use Rattle.chw_typing.proofs.TermsPut.{term_put, puts_same, kind_same}
use Rattle.chw_typing.proofs.Given.{all_give_same}
use Rattle.chw_typing.specs.Paths.{element_at, part_of_group, with_part, with_side, with_body, with_element, Branch, branch_at, with_branch}
use Rattle.chw_typing.proofs.PathParts.{with_part_below}
use Rattle.chw_typing.specs.Around.{Around, here, in_lam, in_ty_lam, in_function, in_argument, in_ty_app, in_letrec, in_vector, in_scrutinee, in_branch}
use Rattle.chw_typing.proofs.OneChanged.{declared_with_side, count_with_element, patterns_with_branch, MayReplace, MayReplaceIn, group_kept, elements_kept, alternatives_kept, first_kept}

-- where the variables' types are the same up to naturals, what has a type has it there too
pub same_variables : (s : Setting) (kinds : List Kind) (vars vars' : List TypeTree) (e : TermTree) (t : TypeTree) → IsSound s → AreTermTypes s kinds vars → AreTermTypes s kinds vars' → AreSame vars vars' → HasType s kinds vars e t → HasTypeUpTo s kinds vars' e t
same_variables s kinds vars vars' e t h g g' q d = subst (λ f. HasTypeUpTo s kinds vars' f t) (sub_ids e) (term_put d h g var vars' g' (puts_same s kinds vars vars' q))

-- what may replace a term where variables have these types may do so where their types are the same
replace_in_same : (s : Setting) (kinds : List Kind) (vars vars' : List TypeTree) (x y : TermTree) → IsSound s → AreTermTypes s kinds vars → AreTermTypes s kinds vars' → AreSame vars vars' → MayReplace s kinds vars x y → MayReplace s kinds vars' x y
replace_in_same s kinds vars vars' x y h g g' q f u d =
    let there = same_variables s kinds vars' vars x u h g' g (are_same_turned vars vars' q) d in
    let new = f there.type there.has in
    let back = same_variables s kinds vars vars' y new.type h g g' q new.has in
    record { type = back.type; has = back.has; same = same_through there.same (same_through new.same back.same) }

-- so in an alternative, whatever its pattern binds
replace_in_branch : (s : Setting) (kinds : List Kind) (vars bound : List TypeTree) (u v : TypeTree) (j : Kind) (a : Branch) (y : TermTree) → IsSound s → AreTermTypes s kinds vars → HasKind s kinds u j → SameTypes u v → Binds s kinds u a.pattern bound → MayReplace s kinds (with_more bound vars) a.body y → MayReplaceIn s kinds vars v a y
replace_in_branch s kinds vars bound u v j a y h g l x b f bound' b' =
    replace_in_same s kinds (with_more bound vars) (with_more bound' vars) a.body y h (typed_more s kinds bound vars b.typed g) (typed_more s kinds bound' vars b'.typed g)
    (same_more bound bound' vars vars (one_binding b b' h j l x) (are_same_self vars)) f

-- a letrec of which one right side or the body changes
letrec_kept : (s : Setting) (kinds : List Kind) (vars : List TypeTree) (g : Group) (e b y : TermTree) (t : TypeTree) (k : Kind) (i : ℕ) → IsSound s → AreTermTypes s kinds vars → HasType s kinds (with_more (declared g) vars) e t → HasKind s kinds t k → AreBound s kinds (with_more (declared g) vars) k g → part_of_group g e i ≡ Some b → MayReplace s kinds (with_more (declared g) vars) b y → HasTypeUpTo s kinds vars (letrec (with_side g i y) (with_body g e i y)) t
letrec_kept s kinds vars g e b y t k i h typed d l bs at f =
    let kept = group_kept bs e t d i b y at f in
    let same = sym (declared_with_side g i y) in
    let scope = typed_more s kinds (declared g) vars (bound_typed bs) typed in
    record {
      type = kept.body.type;
      has = h_letrec
          (subst (λ ts. HasType s kinds (with_more ts vars) (with_body g e i y) kept.body.type) same kept.body.has)
          (kind_same s kinds t kept.body.type k l (type_kinded kept.body.has h scope) kept.body.same)
          (subst (λ ts. AreBound s kinds (with_more ts vars) k (with_side g i y)) same kept.sides);
      same = kept.body.same;
    }

-- a vector of which one element changes
vector_kept : (s : Setting) (kinds : List Kind) (vars : List TypeTree) (t u : TypeTree) (es : Terms) (b y : TermTree) (i : ℕ) → HasType s kinds vars (vec_lit t es) u → element_at es i ≡ Some b → MayReplace s kinds vars b y → HasTypeUpTo s kinds vars (vec_lit t (with_element es i y)) u
vector_kept s kinds vars t u es b y i (h_vec l ds) at f =
    record {
      type = vector (nat_lit (count es)) t;
      has = subst (λ n. HasType s kinds vars (vec_lit t (with_element es i y)) (vector (nat_lit n) t)) (count_with_element es i y) (h_vec l (elements_kept ds i b y at f));
      same = same_self (vector (nat_lit (count es)) t);
    }

-- a case of which one alternative changes
case_kept : (s : Setting) (kinds : List Kind) (vars bound : List TypeTree) (e y : TermTree) (u t : TypeTree) (alts : Alts) (a : Branch) (i : ℕ) → IsSound s → AreTermTypes s kinds vars → HasType s kinds vars (case_of e alts) t → branch_at alts i ≡ Some a → HasType s kinds vars e u → Binds s kinds u a.pattern bound → MayReplace s kinds (with_more bound vars) a.body y → HasTypeUpTo s kinds vars (case_of e (with_branch alts i y)) t
case_kept s kinds vars bound e y u t (alt q f more) a zero h g (h_case {bound = own} {u = v} {j = j} {k = k} d looked l b c m allows o n) at d' b' r =
    let x = one_type d' d h g g (are_same_self vars) in
    let of = type_kinded d' h g in
    let new = first_kept s kinds vars own v t q f a y at (replace_in_branch s kinds vars bound u v of.kind a y h g of.has x b' r) b c in
    let scope = typed_more s kinds own vars b.typed g in
    record {
      type = new.type;
      has = h_case d looked l b new.has (kind_same s kinds t new.type k m (type_kinded new.has h scope) new.same) allows (all_give_same o h j l (same_self v) new.same)
          (none_hidden_by (alt q f more) (alt q y more) refl n);
      same = new.same;
    }
case_kept s kinds vars bound e y u t (alt q f more) a (suc i) h g (h_case {u = v} d looked l b c m allows o n) at d' b' r =
    let x = one_type d' d h g g (are_same_self vars) in
    let of = type_kinded d' h g in
    record {
      type = t;
      has = h_case d looked l b c m allows (alternatives_kept o i a y at (replace_in_branch s kinds vars bound u v of.kind a y h g of.has x b' r))
          (none_hidden_by (alt q f more) (alt q f (with_branch more i y)) (ap (λ qs. q ∷ qs) (sym (patterns_with_branch more i y))) n);
      same = same_self t;
    }
case_kept s kinds vars bound e y u t no_alts a i h g d at d' b' r = elim d [ ]

pub plugged : {s : Setting} {kinds ks : List Kind} {vars vs : List TypeTree} {e x : TermTree} {p : List ℕ} → Around s kinds vars e p ks vs x → IsSound s → (y : TermTree) → MayReplace s ks vs x y → AreTermTypes s kinds vars → (t : TypeTree) → HasType s kinds vars e t → HasTypeUpTo s kinds vars (with_part e p y) t
plugged here h y f g t d = f t d
plugged {s} {kinds} {vars = vars} (in_lam {a = a} r) h y f g _ (h_lam {b = b} {k = k} d l) =
    let takes = function_takes s kinds a b k l in
    let parts = function_parts l in
    let body = plugged r h y f (takes, g) b d in
    record {
      type = fun a body.type;
      has = h_lam body.has (kind_fun parts.1 (kind_same s kinds b body.type k parts.2 (type_kinded body.has h (takes, g)) body.same) parts.3);
      same = same_fun (same_self a) body.same;
    }
plugged {s} {kinds} {vars = vars} (in_ty_lam {j = j} r) h y f g _ (h_ty_lam {t = t} d) =
    let body = plugged r h y f (typed_under s kinds j vars g) t d in
    record { type = for_all j body.type; has = h_ty_lam body.has; same = same_for_all body.same }
plugged {s} {kinds} {vars = vars} (in_function {f = e} {p = p} r) h y f g t (h_app {a = a} {b = b} d c x) =
    let of = plugged r h y f g (fun a b) d in
    let at = as_function of.same in
    record { type = at.1; has = h_app (subst (HasType s kinds vars (with_part e p y)) at.2 of.has) c (same_through (same_turned at.3) x); same = at.4 }
plugged (in_argument r) h y f g t (h_app {c = u} d c x) =
    let arg = plugged r h y f g u c in
    record { type = t; has = h_app d arg.has (same_through x arg.same); same = same_self t }
plugged {s} {kinds} {vars = vars} (in_ty_app {f = e} {p = p} r) h y f g t (h_ty_app {j = j} {t = u} {a = a} d l x m) =
    let of = plugged r h y f g (for_all j u) d in
    let at = as_bound of.same in
    let has = subst (HasType s kinds vars (with_part e p y)) at.1 of.has in
    let part = put_same_of_kinds j (are_of_terms s h) (bound_part (type_kinded d h g).has).0 (bound_part (type_kinded has h g).has).0 l at.2 (same_self a) in
    record { type = t; has = h_ty_app has l (same_through (same_turned part) x) m; same = same_self t }
plugged {s} {kinds} {vars = vars} (in_letrec {g = group} {e = e} {b = b} {i = i} {p = p} at r) h y f g t (h_letrec {k = k} d l bs) =
    subst (λ z. HasTypeUpTo s kinds vars z t) (sym (with_part_below (letrec group e) b y i p at))
    (letrec_kept s kinds vars group e b (with_part b p y) t k i h g d l bs at (plugged r h y f (typed_more s kinds (declared group) vars (bound_typed bs) g)))
plugged {s} {kinds} {vars = vars} (in_vector {t = u} {es = es} {e = e} {i = i} {p = p} at r) h y f g t d =
    subst (λ z. HasTypeUpTo s kinds vars z t) (sym (with_part_below (vec_lit u es) e y i p at))
    (vector_kept s kinds vars u t es e (with_part e p y) i d at (plugged r h y f g))
plugged {s} {kinds} {vars = vars} (in_scrutinee r) h y f g t (h_case {u = u} {j = j} d looked l b c m allows o n) =
    let on = plugged r h y f g u d in
    record {
      type = t;
      has = h_case on.has (looked_at_same u on.type looked on.same) (kind_same s kinds u on.type j l (type_kinded on.has h g) on.same) (binds_same b h j on.type l on.same) c m allows
          (all_give_same o h j l on.same (same_self t)) n;
      same = same_self t;
    }
plugged {s} {kinds} {vars = vars} (in_branch {bound = bound} {u = u} {e = e} {alts = alts} {a = a} {i = i} {p = p} at c b r) h y f g t d =
    subst (λ z. HasTypeUpTo s kinds vars z t) (sym (with_part_below (case_of e alts) a.body y (suc i) p (ap (option_map (λ a. a.body)) at)))
    (case_kept s kinds vars bound e (with_part a.body p y) u t alts a i h g d at c b (plugged r h y f (typed_more s kinds bound vars b.typed g)))
