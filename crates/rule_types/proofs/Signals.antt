-- What rules make of functions on signals keeps types.
use Rattle.std.proofs.Common.{◌+◌, ◌∙◌, ◌∷◌, ◌≡◌, List, Some, [], ap, arith, length, refl, subst, suc, sym, zero, ℕ}
use Rattle.std.specs.List.{slice_get}
use Rattle.chw_types.proofs.SameLaws.{same_self, same_through, same_turned}
use Rattle.chw_types.specs.Kinds.{kind_fun}
use Rattle.chw_types.specs.SameTypes.{SameTypes, same_fun, same_signal}
use Rattle.chw_types.specs.TypeTree.{TypeTree, fun, signal}
use Rattle.chw_types.specs.declared.kind.Kind.{Kind}
use Rattle.chw_types.specs.declared.kind.Kind.TheVariants.{Val}
use Rattle.type_laws.proofs.SameForms.{as_function}
use Rattle.chw_terms.specs.TermMoves.{shift}
use Rattle.chw_terms.specs.TermTree.{TermTree, app, var}
use Rattle.chw_terms.specs.declared.rule.Rule.{Rule}
use Rattle.chw_terms.specs.declared.rule.Rule.TheVariants.{Spec}
use Rattle.chw_typing.proofs.Kinded.{function_parts, type_kinded}
use Rattle.chw_typing.proofs.Lists.{turned_onto}
use Rattle.chw_typing.proofs.OneType.{one_type}
use Rattle.chw_typing.proofs.SameScopes.{are_same_self}
use Rattle.chw_typing.proofs.TermsPut.{kind_same}
use Rattle.chw_typing.specs.HeadTypes.{from_each}
use Rattle.chw_typing.specs.Programs.{IsSound}
use Rattle.chw_typing.specs.Scopes.{AreTermTypes, HasKind, Setting, with_more}
use Rattle.chw_typing.specs.Typing.{HasType, HasTypeUpTo, h_app, h_lam, h_var}
use Rattle.chw_typing.proofs.FoundTyped.{found_is_type}
use Rattle.chw_typing.specs.Finding.{Finds}
use Rattle.rewriting.specs.Origins.{Origins, eta_expanded, on_variables, setting_at, under_each}
use Rattle.rewriting.specs.Spots.{Spot}
use Rattle.rewriting.specs.Lifted.{Joins, ap_ap, ap_fmap, ap_pure, ap_value, before_each, behind_each, composed, each_composed, fmap_ap, fmap_fmap, fmap_pure, on_value}
use Rattle.rewriting.specs.Signals.{OfSignals, eta, join, spec_function}
use Rattle.rule_types.proofs.Applied.{ap_parts, ap_up_to, applied_up_to, fmap_parts, fmap_up_to, lambda_up_to, name_up_to, payload_kind, pure_part, pure_up_to, same_payload, up_to_as, value_parts}
use Rattle.rule_types.proofs.Bodies.{shifted_more}
use Rattle.rule_types.proofs.Projected.{reversed_at}
use Rattle.rule_types.specs.Laws.{IsTypedPlace, KeepsType}

-- a found type, and one that the term has up to naturals
found_same : {s : Setting} {vars : List TypeTree} {e : TermTree} {t u : TypeTree} → IsSound s → AreTermTypes s [] vars → Finds s [] vars e t → HasTypeUpTo s [] vars e u → SameTypes u t
found_same {vars = vars} h g f d = same_through d.same (one_type d.has (found_is_type f) h g g (are_same_self vars))

raised_up_to : {s : Setting} {vars : List TypeTree} {e : TermTree} {t : TypeTree} (u : TypeTree) → HasTypeUpTo s [] vars e t → HasTypeUpTo s [] (u ∷ vars) (shift e 0 1) t
raised_up_to u d = record { type = d.type; has = shifted_more (u ∷ []) 1 refl d.has; same = d.same }

raised_twice : {s : Setting} {vars : List TypeTree} {e : TermTree} {t : TypeTree} (u v : TypeTree) → HasTypeUpTo s [] vars e t → HasTypeUpTo s [] (v ∷ u ∷ vars) (shift e 0 2) t
raised_twice u v d = record { type = d.type; has = shifted_more (u ∷ v ∷ []) 2 refl d.has; same = d.same }

-- a function of values that is found, and its parts
record FunctionFound (s : Setting) (a b t r : TypeTree) : Type 0 where
  takes : HasKind s [] t Val
  gives : HasKind s [] r Val
  whole : HasKind s [] (fun t r) Val
  same_taken : SameTypes t a
  same_given : SameTypes r b

function_found : (s : Setting) {a b t r : TypeTree} → HasKind s [] (fun t r) Val → SameTypes (fun a b) (fun t r) → FunctionFound s a b t r
function_found s {t = t} {r = r} k x =
    let at = as_function x in
    let first : at.0 ≡ t = cc in
    let second : at.1 ≡ r = cc in
    let parts = value_parts s k in
    record { takes = parts.0; gives = parts.1; whole = k; same_taken = same_turned (subst (SameTypes _) first at.3); same_given = same_turned (subst (SameTypes _) second at.4) }

-- each of the functions that joining makes
composed_typed : {s : Setting} {vars : List TypeTree} {f g : TermTree} {a b c t : TypeTree} → IsSound s → AreTermTypes s [] vars → HasKind s [] t Val → HasKind s [] c Val → SameTypes t a → HasTypeUpTo s [] vars f (fun b c) → HasTypeUpTo s [] vars g (fun a b) → HasTypeUpTo s [] vars (composed t f g) (fun a c)
composed_typed {c = c} {t = t} h sc kt kc x f g =
    up_to_as (lambda_up_to h sc kt kc (applied_up_to (raised_up_to t f) (applied_up_to (raised_up_to t g) (up_to_as (name_up_to 0 refl) x)))) (same_fun x (same_self c))

before_typed : {s : Setting} {vars : List TypeTree} {f : TermTree} {a b c t r : TypeTree} → IsSound s → AreTermTypes s [] vars → FunctionFound s a b t r → HasKind s [] c Val → HasTypeUpTo s [] vars f (fun b c) → HasTypeUpTo s [] vars (before_each (fun t r) t f) (fun (fun a b) (fun a c))
before_typed {s} {vars} {c = c} {t = t} {r = r} h sc of kc f =
    let inner : AreTermTypes s [] (fun t r ∷ vars) = (record { kind = Val; has = of.whole; of_terms = tt }, sc) in
    up_to_as
    (lambda_up_to h sc of.whole (kind_fun of.takes kc tt)
    (lambda_up_to h inner of.takes kc
    (applied_up_to (raised_twice (fun t r) t f) (up_to_as (applied_up_to (name_up_to 1 refl) (name_up_to 0 refl)) of.same_given))))
    (same_fun (same_fun of.same_taken of.same_given) (same_fun of.same_taken (same_self c)))

value_typed : {s : Setting} {vars : List TypeTree} {v : TermTree} {a b t : TypeTree} → IsSound s → AreTermTypes s [] vars → HasKind s [] t Val → HasKind s [] b Val → SameTypes t (fun a b) → HasTypeUpTo s [] vars v a → HasTypeUpTo s [] vars (on_value t v) (fun (fun a b) b)
value_typed {b = b} {t = t} h sc kt kb x v =
    up_to_as (lambda_up_to h sc kt kb (applied_up_to (up_to_as (name_up_to 0 refl) x) (raised_up_to t v))) (same_fun x (same_self b))

behind_typed : {s : Setting} {vars : List TypeTree} {g : TermTree} {a b c t u : TypeTree} → IsSound s → AreTermTypes s [] vars → HasKind s [] u Val → HasKind s [] t Val → HasKind s [] c Val → SameTypes u (fun b c) → SameTypes t a → HasTypeUpTo s [] vars g (fun a b) → HasTypeUpTo s [] vars (behind_each u t g) (fun (fun b c) (fun a c))
behind_typed {s} {vars} {c = c} {t = t} {u = u} h sc ku kt kc x y g =
    let inner : AreTermTypes s [] (u ∷ vars) = (record { kind = Val; has = ku; of_terms = tt }, sc) in
    up_to_as
    (lambda_up_to h sc ku (kind_fun kt kc tt)
    (lambda_up_to h inner kt kc
    (applied_up_to (up_to_as (name_up_to 1 refl) x) (applied_up_to (raised_twice u t g) (up_to_as (name_up_to 0 refl) y)))))
    (same_fun x (same_fun y (same_self c)))

each_typed : {s : Setting} {vars : List TypeTree} {a b c t r u : TypeTree} → IsSound s → AreTermTypes s [] vars → HasKind s [] u Val → FunctionFound s a b t r → HasKind s [] c Val → SameTypes u (fun b c) → HasTypeUpTo s [] vars (each_composed u (fun t r) t) (fun (fun b c) (fun (fun a b) (fun a c)))
each_typed {s} {vars} {c = c} {t = t} {r = r} {u = u} h sc ku of kc x =
    let inner : AreTermTypes s [] (u ∷ vars) = (record { kind = Val; has = ku; of_terms = tt }, sc) in
    let third : AreTermTypes s [] (fun t r ∷ u ∷ vars) = (record { kind = Val; has = of.whole; of_terms = tt }, inner) in
    up_to_as
    (lambda_up_to h sc ku (kind_fun of.whole (kind_fun of.takes kc tt) tt)
    (lambda_up_to h inner of.whole (kind_fun of.takes kc tt)
    (lambda_up_to h third of.takes kc
    (applied_up_to (up_to_as (name_up_to 2 refl) x) (up_to_as (applied_up_to (name_up_to 1 refl) (name_up_to 0 refl)) of.same_given)))))
    (same_fun x (same_fun (same_fun of.same_taken of.same_given) (same_fun of.same_taken (same_self c))))

-- a signal of what is found
payload_found : {s : Setting} {vars : List TypeTree} {e : TermTree} {d i t u : TypeTree} → IsSound s → AreTermTypes s [] vars → Finds s [] vars e (signal i t) → HasTypeUpTo s [] vars e (signal d u) → HasKind s [] t Val × SameTypes u t
payload_found {s} h g f d = (payload_kind s (type_kinded (found_is_type f) h g).has, (same_payload (found_same h g f d)).1)

-- a found function is one of values where its type is that of one
function_values : {o : Origins} {at : Spot} {e : TermTree} {a b t r : TypeTree} → IsTypedPlace o at → HasKind (setting_at o) [] a Val → HasKind (setting_at o) [] b Val → Finds (setting_at o) [] at.vars e (fun t r) → HasTypeUpTo (setting_at o) [] at.vars e (fun a b) → HasKind (setting_at o) [] (fun t r) Val
function_values {o} {at} {a = a} {b = b} {t = t} {r = r} h ka kb f d =
    kind_same (setting_at o) [] (fun a b) (fun t r) Val (kind_fun ka kb tt) (type_kinded (found_is_type f) h.sound h.vars) (found_same h.sound h.vars f d)

pub joins_keep : {o : Origins} {at : Spot} {e e' : TermTree} → Joins o at e e' → IsTypedPlace o at → KeepsType o at e e'
joins_keep (ap_pure {d = d} {a = a} {b = b}) h t typed =
    let outer = ap_parts h.sound h.vars typed in
    up_to_as (fmap_up_to outer.in_domain outer.taken outer.given (pure_part h.sound h.vars outer.function) outer.on) outer.gives
joins_keep fmap_pure h t typed =
    let outer = fmap_parts h.sound h.vars typed in
    up_to_as (pure_up_to outer.in_domain outer.given (applied_up_to outer.function (pure_part h.sound h.vars outer.on))) outer.gives
joins_keep {o} (fmap_fmap {a = a} {b = b} {c = c} fused found) h t typed =
    let outer = fmap_parts h.sound h.vars typed in
    let inner = fmap_parts h.sound h.vars outer.on.has in
    let same = same_payload (same_through inner.gives (same_turned outer.on.same)) in
    let g = up_to_as inner.function (same_fun (same_self a) same.1) in
    let of = function_found (setting_at o) (function_values h inner.taken inner.given found inner.function) (found_same h.sound h.vars found g) in
    up_to_as
    (fmap_up_to outer.in_domain inner.taken outer.given (composed_typed h.sound h.vars of.takes outer.given of.same_taken outer.function g) (up_to_as inner.on (same_signal same.0 (same_self a)))) outer.gives
joins_keep {o} (fmap_ap {a = a} {b = b} {c = c} fused found) h t typed =
    let outer = fmap_parts h.sound h.vars typed in
    let inner = ap_parts h.sound h.vars outer.on.has in
    let same = same_payload (same_through inner.gives (same_turned outer.on.same)) in
    let u = up_to_as inner.function (same_signal same.0 (same_fun (same_self a) same.1)) in
    let payload = payload_found h.sound h.vars found u in
    let of = function_found (setting_at o) payload.0 payload.1 in
    let ab = kind_fun inner.taken outer.taken tt in
    let ac = kind_fun inner.taken outer.given tt in
    up_to_as
    (ap_up_to outer.in_domain inner.taken outer.given
    (fmap_up_to outer.in_domain ab ac (before_typed h.sound h.vars of outer.given outer.function) u)
    (up_to_as inner.on (same_signal same.0 (same_self a))))
    outer.gives
joins_keep (ap_value {a = a} {b = b} bare fused found) h t typed =
    let outer = ap_parts h.sound h.vars typed in
    let payload = payload_found h.sound h.vars found outer.function in
    up_to_as
    (fmap_up_to outer.in_domain (kind_fun outer.taken outer.given tt) outer.given
    (value_typed h.sound h.vars payload.0 outer.given (same_turned payload.1) (pure_part h.sound h.vars outer.on)) outer.function)
    outer.gives
joins_keep {o} (ap_fmap {a = a} {b = b} {c = c} bare fused found found_g) h t typed =
    let outer = ap_parts h.sound h.vars typed in
    let inner = fmap_parts h.sound h.vars outer.on.has in
    let same = same_payload (same_through inner.gives (same_turned outer.on.same)) in
    let payload = payload_found h.sound h.vars found outer.function in
    let g = up_to_as inner.function (same_fun (same_self a) same.1) in
    let of = function_found (setting_at o) (function_values h inner.taken inner.given found_g inner.function) (found_same h.sound h.vars found_g g) in
    let bc = kind_fun outer.taken outer.given tt in
    let ac = kind_fun inner.taken outer.given tt in
    up_to_as
    (ap_up_to outer.in_domain inner.taken outer.given
    (fmap_up_to outer.in_domain bc ac (behind_typed h.sound h.vars payload.0 of.takes outer.given (same_turned payload.1) of.same_taken g) outer.function)
    (up_to_as inner.on (same_signal same.0 (same_self a))))
    outer.gives
joins_keep {o} (ap_ap {a = a} {b = b} {c = c} bare fused found found_v) h t typed =
    let outer = ap_parts h.sound h.vars typed in
    let inner = ap_parts h.sound h.vars outer.on.has in
    let same = same_payload (same_through inner.gives (same_turned outer.on.same)) in
    let payload = payload_found h.sound h.vars found outer.function in
    let v = up_to_as inner.function (same_signal same.0 (same_fun (same_self a) same.1)) in
    let other = payload_found h.sound h.vars found_v v in
    let of = function_found (setting_at o) other.0 other.1 in
    let ab = kind_fun inner.taken outer.taken tt in
    let bc = kind_fun outer.taken outer.given tt in
    let ac = kind_fun inner.taken outer.given tt in
    up_to_as
    (ap_up_to outer.in_domain inner.taken outer.given
    (ap_up_to outer.in_domain ab ac
    (fmap_up_to outer.in_domain bc (kind_fun ab ac tt) (each_typed h.sound h.vars payload.0 of outer.given (same_turned payload.1)) outer.function) v)
    (up_to_as inner.on (same_signal same.0 (same_self a))))
    outer.gives

-- a term on variables of the types that it asks for
first_variable : (n j : ℕ) (e : TermTree) → on_variables e j (suc n) ≡ on_variables (app e (var (j + n))) j n
first_variable zero j e = let at : j ≡ j + 0 = omega arith in ap (λ x. app e (var x)) at
first_variable (suc n) j e =
    let at : suc j + n ≡ j + suc n = omega arith in
    ap (λ f. app f (var j)) (first_variable n (suc j) e ∙ ap (λ x. on_variables (app e (var x)) (suc j) n) at)

variables_typed : {s : Setting} {scope : List TypeTree} (args : List TypeTree) (r : TypeTree) (e : TermTree) (j : ℕ) → ((i m : ℕ) (t : TypeTree) → m + suc i ≡ j + length args → slice_get args i ≡ Some t → slice_get scope m ≡ Some t) → HasType s [] scope e (from_each args r) → HasType s [] scope (on_variables e j (length args)) r
variables_typed [] r e j at d = d
variables_typed {s} {scope} (a ∷ args) r e j at d =
    subst (λ f. HasType s [] scope f r) (sym (first_variable (length args) j e))
    (variables_typed args r (app e (var (j + length args))) j (λ i m t l is. at (suc i) m t (omega (arith, l)) is) (h_app d (h_var (at 0 (j + length args) a (omega arith) refl)) (same_self a)))

-- a term under a lambda for each of these types
pub under_each_typed : {s : Setting} {vars : List TypeTree} (args : List TypeTree) (r : TypeTree) (e : TermTree) (k : Kind) → HasKind s [] (from_each args r) k → HasType s [] (with_more args vars) e r → HasType s [] vars (under_each args e) (from_each args r)
under_each_typed [] r e k l d = d
under_each_typed {s} {vars} (a ∷ args) r e k l d =
    h_lam (under_each_typed args r e k (function_parts l).2 (subst (λ scope. HasType s [] scope e r) (turned_onto a args vars) d)) l

pub eta_typed : {s : Setting} {vars : List TypeTree} (args : List TypeTree) (r : TypeTree) (e : TermTree) (k : Kind) → HasKind s [] (from_each args r) k → HasType s [] vars e (from_each args r) → HasType s [] vars (eta_expanded args e) (from_each args r)
eta_typed {s} {vars} args r e k l d =
    under_each_typed args r (on_variables (shift e 0 (length args)) 0 (length args)) k l
    (variables_typed args r (shift e 0 (length args)) 0 (λ i m t n is. reversed_at args vars i m t (omega (arith, n)) is) (shifted_more args (length args) refl d))

pub signals_keep : (o : Origins) (at : Spot) → IsTypedPlace o at → {r : Rule} {e e' : TermTree} → OfSignals o at r e e' → (r ≡ Spec → ⊥) → KeepsType o at e e'
signals_keep o at h (join circuit joins) other t d = joins_keep joins h t d
signals_keep o at h (eta {a = a} {b = b} {t = p} {r = r} {ts = ts} {g = g} circuit lifted few) other t d =
    let outer = fmap_parts h.sound h.vars d in
    let whole = from_each (p ∷ ts) r in
    let of = type_kinded (found_is_type lifted.has) h.sound h.vars in
    let expanded = eta_typed (p ∷ ts) r g of.kind of.has (found_is_type lifted.has) in
    let function : HasTypeUpTo (setting_at o) [] at.vars (eta_expanded (p ∷ ts) g) (fun a b) = record { type = whole; has = expanded; same = found_same h.sound h.vars lifted.has outer.function } in
    up_to_as (fmap_up_to outer.in_domain outer.taken outer.given function outer.on) outer.gives
signals_keep o at h (spec_function circuit lifted many number) other t d = absurd (other refl)
