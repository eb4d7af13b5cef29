-- Functions, and the primitives that map, apply and hold values on signals, up to naturals.
use Rattle.std.proofs.Common.{◌<◌, ◌∙◌, ◌∷◌, ◌≡◌, List, Some, [], ap, refl, subst, suc, sym, ℕ}
use Rattle.std.specs.List.{slice_get}
use Rattle.chw_types.proofs.KindsKept.{kind_renamed}
use Rattle.chw_types.proofs.SameLaws.{same_self, same_through, same_turned}
use Rattle.chw_types.proofs.TypeLaws.{rename_sub, same, sub_ids}
use Rattle.chw_types.specs.Kinds.{HasFunctions, IsOfTerms, KindsOf, kind_and, kind_data, kind_domain, kind_for_all, kind_fun, kind_nat, kind_product, kind_scalar, kind_signal, kind_sum, kind_var, kind_vector}
use Rattle.chw_types.specs.SameTypes.{SameTypes, same_fun}
use Rattle.chw_types.specs.TypeMoves.{put, put_at, rename, sub, up, up_by}
use Rattle.chw_types.specs.TypeTree.{TypeTree, domain, for_all, fun, no_types, signal, ty_var, type_and}
use Rattle.chw_types.specs.declared.kind.Kind.{Kind}
use Rattle.chw_types.specs.declared.kind.Kind.TheVariants.{Cir, Dom, Nat, Val}
use Rattle.type_laws.proofs.SameForms.{as_function, as_signal}
use Rattle.type_laws.specs.KindsKept.{AreOfTerms}
use Rattle.chw_prims.specs.declared.prim.Primitive.TheVariants.{Ap, Fmap, Pure}
use Rattle.chw_terms.specs.TermTree.{TermTree, app, lam, prim, ty_app, var}
use Rattle.chw_typing.proofs.Heads.{functions_of_terms}
use Rattle.chw_typing.proofs.Kinded.{function_parts, type_kinded}
use Rattle.chw_typing.proofs.Patterns.{are_of_terms}
use Rattle.chw_typing.proofs.TermsPut.{kind_same}
use Rattle.chw_typing.specs.Programs.{IsSound}
use Rattle.chw_typing.specs.Scopes.{AreTermTypes, HasKind, Setting}
use Rattle.chw_typing.specs.Typing.{HasType, HasTypeUpTo, h_app, h_lam, h_prim, h_ty_app, h_var}
use Rattle.chw_typing.proofs.Saturated.{prim_at_arguments}
use Rattle.rewriting.specs.Shapes.{ap_of, fmap_of, pure_of}
use Rattle.rule_types.proofs.Bodies.{up_to}

pub up_to_as : {s : Setting} {kinds : List Kind} {vars : List TypeTree} {e : TermTree} {t u : TypeTree} → HasTypeUpTo s kinds vars e t → SameTypes t u → HasTypeUpTo s kinds vars e u
up_to_as d x = record { type = d.type; has = d.has; same = same_through (same_turned x) d.same }

-- a function that is applied
pub applied_up_to : {s : Setting} {vars : List TypeTree} {f x : TermTree} {a b : TypeTree} → HasTypeUpTo s [] vars f (fun a b) → HasTypeUpTo s [] vars x a → HasTypeUpTo s [] vars (app f x) b
applied_up_to {s} {vars} {f} d e =
    let at = as_function d.same in
    record {
      type = at.1;
      has = h_app (subst (HasType s [] vars f) at.2 d.has) e.has (same_through (same_turned at.3) e.same);
      same = at.4;
    }

-- a lambda on values that gives values
pub lambda_up_to : {s : Setting} {vars : List TypeTree} {e : TermTree} {a b : TypeTree} → IsSound s → AreTermTypes s [] vars → HasKind s [] a Val → HasKind s [] b Val → HasTypeUpTo s [] (a ∷ vars) e b → HasTypeUpTo s [] vars (lam a e) (fun a b)
lambda_up_to {s} {vars} {e} {a} {b} h g ka kb d =
    let inner : AreTermTypes s [] (a ∷ vars) = (record { kind = Val; has = ka; of_terms = tt }, g) in
    record {
      type = fun a d.type;
      has = h_lam d.has (kind_fun ka (kind_same s [] b d.type Val kb (type_kinded d.has h inner) d.same) tt);
      same = same_fun (same_self a) d.same;
    }

pub name_up_to : {s : Setting} {vars : List TypeTree} (x : ℕ) {t : TypeTree} → slice_get vars x ≡ Some t → HasTypeUpTo s [] vars (var x) t
name_up_to x e = up_to (h_var e)

-- parts of a type of values
pub value_parts : (s : Setting) {a b : TypeTree} → HasKind s [] (fun a b) Val → HasKind s [] a Val × HasKind s [] b Val
value_parts s {a} {b} k =
    let parts = function_parts k in
    (takes parts.0 parts.3 parts.1, parts.2)
  where
    takes : (j : Kind) → HasFunctions j Val → HasKind s [] a j → HasKind s [] a Val
    takes Val f k = k
    takes Cir f k = absurd f
    takes Nat f k = absurd f
    takes Dom f k = absurd f

pub payload_kind : (s : Setting) {d t : TypeTree} {k : Kind} → HasKind s [] (signal d t) k → HasKind s [] t Val
payload_kind s (kind_signal a b) = b

pub same_payload : {d e t u : TypeTree} → SameTypes (signal d t) (signal e u) → SameTypes d e × SameTypes t u
same_payload {e = e} {u = u} x =
    let at = as_signal x in
    let is : at.0 ≡ e = cc in
    let same : at.1 ≡ u = cc in
    (subst (SameTypes _) is at.3, subst (SameTypes _) same at.4)

-- a closed type under one more binder, and there put back
raised_back : (t a : TypeTree) → put (rename t suc) 0 a ≡ t
unfolding put_at up_by
raised_back t a = rename_sub t suc (put_at 0 a) ∙ ap (sub t) (same _ _ (λ x. refl)) ∙ sub_ids t

raised_kind : (s : Setting) (t : TypeTree) (j k : Kind) → HasKind s [] t k → HasKind s (j ∷ []) (rename t suc) k
raised_kind s t j k h = kind_renamed h suc (j ∷ []) (λ x i e. absurd cc)

-- a domain's type is one of the program's domains
abbrev pub IsDomain : Setting → TypeTree → Type 0
IsDomain s d = (n : ℕ) × (d ≡ domain n) × (n < s.domains)

domain_of : (s : Setting) → AreOfTerms s.datas → {t : TypeTree} {k : Kind} → HasKind s [] t k → k ≡ Dom → IsDomain s t
domain_of s h (kind_domain {d = n} l) is = (n, refl, l)
domain_of s h (kind_vector a b o) is = absurd (subst IsOfTerms is o)
domain_of s h (kind_data {d = d} {it = it} e ds) is = absurd (subst IsOfTerms is (h d it e))
domain_of s h (kind_fun {j = j} {k = k} a b f) is = absurd (subst IsOfTerms is (functions_of_terms j k f).1)
domain_of s h (kind_for_all a o) is = absurd (subst IsOfTerms is o)
domain_of s h (kind_var e) is = absurd cc
domain_of s h kind_nat is = absurd cc
domain_of s h (kind_sum a b l) is = absurd cc
domain_of s h (kind_product a b l) is = absurd cc
domain_of s h (kind_scalar a) is = absurd cc
domain_of s h (kind_signal a b) is = absurd cc

-- the primitives on signals at their types
fmap_in : (s : Setting) (vars : List TypeTree) (n : ℕ) (a b : TypeTree) → n < s.domains → HasKind s [] a Val → HasKind s [] b Val → HasType s [] vars (ty_app (ty_app (ty_app (prim Fmap) (domain n)) a) b) (fun (fun a b) (fun (signal (domain n) a) (signal (domain n) b)))
unfolding put_at up_by up sub rename
fmap_in s vars n a b l ka kb =
    let d = domain n in
    let v = rename a suc in
    let raised = raised_kind s a Val Val ka in
    h_ty_app
    (h_ty_app (h_ty_app h_prim (kind_domain l) (same_self (for_all Val (for_all Val (fun (fun (ty_var 1) (ty_var 0)) (fun (signal d (ty_var 1)) (signal d (ty_var 0)))))))
    (kind_for_all (kind_for_all (kind_fun (kind_fun (kind_var refl) (kind_var refl) tt) (kind_fun (kind_signal (kind_domain l) (kind_var refl)) (kind_signal (kind_domain l) (kind_var refl)) tt) tt) tt) tt))
    ka (same_self (for_all Val (fun (fun v (ty_var 0)) (fun (signal d v) (signal d (ty_var 0))))))
    (kind_for_all (kind_fun (kind_fun raised (kind_var refl) tt) (kind_fun (kind_signal (kind_domain l) raised) (kind_signal (kind_domain l) (kind_var refl)) tt) tt) tt))
    kb (subst (λ x. SameTypes (fun (fun x b) (fun (signal d x) (signal d b))) (fun (fun a b) (fun (signal d a) (signal d b)))) (sym (raised_back a b)) (same_self (fun (fun a b) (fun (signal d a) (signal d b)))))
    (kind_fun (kind_fun ka kb tt) (kind_fun (kind_signal (kind_domain l) ka) (kind_signal (kind_domain l) kb) tt) tt)

ap_in : (s : Setting) (vars : List TypeTree) (n : ℕ) (a b : TypeTree) → n < s.domains → HasKind s [] a Val → HasKind s [] b Val → HasType s [] vars (ty_app (ty_app (ty_app (prim Ap) (domain n)) a) b) (fun (signal (domain n) (fun a b)) (fun (signal (domain n) a) (signal (domain n) b)))
unfolding put_at up_by up sub rename
ap_in s vars n a b l ka kb =
    let d = domain n in
    let v = rename a suc in
    let raised = raised_kind s a Val Val ka in
    h_ty_app
    (h_ty_app (h_ty_app h_prim (kind_domain l) (same_self (for_all Val (for_all Val (fun (signal d (fun (ty_var 1) (ty_var 0))) (fun (signal d (ty_var 1)) (signal d (ty_var 0)))))))
    (kind_for_all (kind_for_all (kind_fun (kind_signal (kind_domain l) (kind_fun (kind_var refl) (kind_var refl) tt)) (kind_fun (kind_signal (kind_domain l) (kind_var refl)) (kind_signal (kind_domain l) (kind_var refl)) tt) tt) tt) tt))
    ka (same_self (for_all Val (fun (signal d (fun v (ty_var 0))) (fun (signal d v) (signal d (ty_var 0))))))
    (kind_for_all (kind_fun (kind_signal (kind_domain l) (kind_fun raised (kind_var refl) tt)) (kind_fun (kind_signal (kind_domain l) raised) (kind_signal (kind_domain l) (kind_var refl)) tt) tt) tt))
    kb (subst (λ x. SameTypes (fun (signal d (fun x b)) (fun (signal d x) (signal d b))) (fun (signal d (fun a b)) (fun (signal d a) (signal d b)))) (sym (raised_back a b)) (same_self (fun (signal d (fun a b)) (fun (signal d a) (signal d b)))))
    (kind_fun (kind_signal (kind_domain l) (kind_fun ka kb tt)) (kind_fun (kind_signal (kind_domain l) ka) (kind_signal (kind_domain l) kb) tt) tt)

pure_in : (s : Setting) (vars : List TypeTree) (n : ℕ) (a : TypeTree) → n < s.domains → HasKind s [] a Val → HasType s [] vars (ty_app (ty_app (prim Pure) (domain n)) a) (fun a (signal (domain n) a))
unfolding put_at up_by up sub rename
pure_in s vars n a l ka =
    let d = domain n in
    h_ty_app
    (h_ty_app h_prim (kind_domain l) (same_self (for_all Val (fun (ty_var 0) (signal d (ty_var 0))))) (kind_for_all (kind_fun (kind_var refl) (kind_signal (kind_domain l) (kind_var refl)) tt) tt))
    ka (same_self (fun a (signal d a))) (kind_fun ka (kind_signal (kind_domain l) ka) tt)

pub fmap_up_to : {s : Setting} {vars : List TypeTree} {d a b : TypeTree} {f e : TermTree} → IsDomain s d → HasKind s [] a Val → HasKind s [] b Val → HasTypeUpTo s [] vars f (fun a b) → HasTypeUpTo s [] vars e (signal d a) → HasTypeUpTo s [] vars (fmap_of d a b f e) (signal d b)
fmap_up_to {s} {vars} {d} {a} {b} of ka kb f e =
    let head = subst (λ d. HasType s [] vars (ty_app (ty_app (ty_app (prim Fmap) d) a) b) (fun (fun a b) (fun (signal d a) (signal d b)))) (sym of.1) (fmap_in s vars of.0 a b of.2 ka kb) in
    applied_up_to (applied_up_to (up_to head) f) e

pub ap_up_to : {s : Setting} {vars : List TypeTree} {d a b : TypeTree} {f e : TermTree} → IsDomain s d → HasKind s [] a Val → HasKind s [] b Val → HasTypeUpTo s [] vars f (signal d (fun a b)) → HasTypeUpTo s [] vars e (signal d a) → HasTypeUpTo s [] vars (ap_of d a b f e) (signal d b)
ap_up_to {s} {vars} {d} {a} {b} of ka kb f e =
    let head = subst (λ d. HasType s [] vars (ty_app (ty_app (ty_app (prim Ap) d) a) b) (fun (signal d (fun a b)) (fun (signal d a) (signal d b)))) (sym of.1) (ap_in s vars of.0 a b of.2 ka kb) in
    applied_up_to (applied_up_to (up_to head) f) e

pub pure_up_to : {s : Setting} {vars : List TypeTree} {d a : TypeTree} {e : TermTree} → IsDomain s d → HasKind s [] a Val → HasTypeUpTo s [] vars e a → HasTypeUpTo s [] vars (pure_of d a e) (signal d a)
pure_up_to {s} {vars} {d} {a} of ka e =
    let head = subst (λ d. HasType s [] vars (ty_app (ty_app (prim Pure) d) a) (fun a (signal d a))) (sym of.1) (pure_in s vars of.0 a of.2 ka) in
    applied_up_to (up_to head) e

three_kinds : (s : Setting) → IsSound s → {d a b : TypeTree} → KindsOf s.datas s.domains [] (type_and d (type_and a (type_and b no_types))) (Dom ∷ Val ∷ Val ∷ []) → IsDomain s d × HasKind s [] a Val × HasKind s [] b Val
three_kinds s h (kind_and x (kind_and y (kind_and z w))) = (domain_of s (are_of_terms s h) x refl, y, z)

-- what their types say of their parts
pub record OnSignals (s : Setting) (vars : List TypeTree) (d a b p : TypeTree) (f e : TermTree) (t : TypeTree) : Type 0 where
  pub in_domain : IsDomain s d
  pub taken : HasKind s [] a Val
  pub given : HasKind s [] b Val
  pub function : HasTypeUpTo s [] vars f p
  pub on : HasTypeUpTo s [] vars e (signal d a)
  pub gives : SameTypes (signal d b) t

pub fmap_parts : {s : Setting} {vars : List TypeTree} {d a b : TypeTree} {f e : TermTree} {t : TypeTree} → IsSound s → AreTermTypes s [] vars → HasType s [] vars (fmap_of d a b f e) t → OnSignals s vars d a b (fun a b) f e t
unfolding sub
fmap_parts {s} {vars} {d} {a} {b} {f} {e} {t} h g typed =
    let at = prim_at_arguments s [] vars Fmap (Dom ∷ Val ∷ Val ∷ []) (fun (ty_var 1) (ty_var 0) ∷ signal (ty_var 2) (ty_var 1) ∷ []) (signal (ty_var 2) (ty_var 0)) (d ∷ a ∷ b ∷ []) (f ∷ e ∷ []) t h g refl refl refl typed in
    let kinds = three_kinds s h at.have in
    record { in_domain = kinds.0; taken = kinds.1; given = kinds.2; function = at.args_given.0; on = at.args_given.1.0; gives = at.gives }

pub ap_parts : {s : Setting} {vars : List TypeTree} {d a b : TypeTree} {f e : TermTree} {t : TypeTree} → IsSound s → AreTermTypes s [] vars → HasType s [] vars (ap_of d a b f e) t → OnSignals s vars d a b (signal d (fun a b)) f e t
unfolding sub
ap_parts {s} {vars} {d} {a} {b} {f} {e} {t} h g typed =
    let at = prim_at_arguments s [] vars Ap (Dom ∷ Val ∷ Val ∷ []) (signal (ty_var 2) (fun (ty_var 1) (ty_var 0)) ∷ signal (ty_var 2) (ty_var 1) ∷ []) (signal (ty_var 2) (ty_var 0)) (d ∷ a ∷ b ∷ []) (f ∷ e ∷ []) t h g refl refl refl typed in
    let kinds = three_kinds s h at.have in
    record { in_domain = kinds.0; taken = kinds.1; given = kinds.2; function = at.args_given.0; on = at.args_given.1.0; gives = at.gives }

-- a value that a signal of it holds
pub pure_part : {s : Setting} {vars : List TypeTree} {d a e u : TypeTree} {x : TermTree} → IsSound s → AreTermTypes s [] vars → HasTypeUpTo s [] vars (pure_of d a x) (signal e u) → HasTypeUpTo s [] vars x u
unfolding sub
pure_part {s} {vars} {d} {a} {e} {u} {x} h g typed =
    let at = prim_at_arguments s [] vars Pure (Dom ∷ Val ∷ []) (ty_var 0 ∷ []) (signal (ty_var 1) (ty_var 0)) (d ∷ a ∷ []) (x ∷ []) typed.type h g refl refl refl typed.has in
    up_to_as at.args_given.0 (same_payload (same_through at.gives (same_turned typed.same))).1
