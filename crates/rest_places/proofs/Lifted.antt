-- The functions of chains at rest are made definitions.
use Rattle.std.proofs.Common.{◌≡◌, ◌∙◌, ◌⊎◌, ◌<◌, ◌≤◌, ◌+◌, inl, inr, refl, sym, ap, subst, ℕ, suc, zero, Bool, true, false, List, [], ◌∷◌, length, arith, Some}
use Rattle.std.specs.List.{slice_get, AllByRecursion}
use Rattle.chw_types.specs.declared.declarations.Data.{Data}
use Rattle.chw_types.specs.declared.kind.Kind.TheVariants.{Val, Cir}
use Rattle.chw_types.specs.Kinds.{kind_fun}
use Rattle.chw_types.specs.SameTypes.{SameTypes, same_fun}
use Rattle.chw_types.specs.TypeTree.{TypeTree, fun, signal}
use Rattle.chw_types.proofs.SameLaws.{same_self, same_turned, same_through}
use Rattle.type_laws.proofs.OneKind.{same_kind}
use Rattle.type_laws.proofs.SameForms.{as_function, as_signal}
use Rattle.type_ports.specs.Ports.{IsPort}
use Rattle.type_ports.specs.Representable.{Representable, representable_scalar, representable_vector, representable_data}
use Rattle.chw_prims.specs.declared.prim.Primitive.TheVariants.{Ap}
use Rattle.chw_terms.specs.Occurs.{occurs}
use Rattle.chw_terms.specs.declared.rule.Rule.TheVariants.{Eta, Spec}
use Rattle.chw_terms.specs.declared.scene.Mode.{Mode}
use Rattle.chw_terms.specs.declared.scene.Mode.TheVariants.{V, C, HV, HC, K}
use Rattle.chw_terms.specs.declared.scene.Sort.{Sort}
use Rattle.chw_terms.specs.declared.scene.Sort.TheVariants.{Value, Circuit}
use Rattle.chw_terms.specs.TermTree.{TermTree, var, made}
use Rattle.chw_typing.specs.Finding.{Finds}
use Rattle.chw_typing.specs.Given.{types_then}
use Rattle.chw_typing.specs.HeadTypes.{from_each}
use Rattle.chw_typing.specs.Programs.{IsSound}
use Rattle.chw_typing.specs.Scopes.{Setting, HasKind}
use Rattle.chw_typing.specs.Typing.{HasType, h_var, h_made, HasTypeUpTo}
use Rattle.chw_typing.proofs.InScope.{in_scope}
use Rattle.chw_typing.proofs.Kinded.{type_kinded}
use Rattle.chw_typing.proofs.Lists.{found_before_map}
use Rattle.chw_typing.proofs.TypedFound.{typed_found}
use Rattle.normal_forms.specs.Circuits.{IsLiftedCall, lifted_on_one, lifted_on_more}
use Rattle.rewriting.specs.Active.{demanded}
use Rattle.rewriting.specs.Named.{IsNamed, LeadsToNamed, to_named, from_named, mode_of}
use Rattle.rewriting.specs.Numbers.{HasOrigin, IsNumberOf}
use Rattle.rewriting.specs.Origins.{MadeOf, Origins, setting_at, origin_of}
use Rattle.rewriting.specs.SceneLaws.{NamedIsDecided, NamedIsTermKind, SameKeepsNamed}
use Rattle.rewriting.specs.Shapes.{IsOfCircuit, IsClosed, IsMade, leading_lambdas, fmap_of, ap_of}
use Rattle.rewriting.specs.Signals.{IsLifted, eta, spec_function}
use Rattle.rewriting.specs.Spots.{Spot, spot, head_mode, asked_for}
use Rattle.rule_types.proofs.Applied.{fmap_parts, ap_parts, payload_kind, same_payload, value_parts, up_to_as}
use Rattle.rest_places.specs.Chains.{IsChain, chain_on_one, chain_on_more, MadeAreNamed, TakesAsMany}
use Rattle.rest_places.specs.Rest.{IsRestPlace, ground}
use Rattle.rest_places.proofs.Below.{rest_below}
use Rattle.rest_places.proofs.Constants.{all_at}
use Rattle.rest_places.proofs.Ports.{payload_of, named_port, circuit_head, not_constant, no_function}
use Rattle.rest_places.proofs.Demanded.{none_of_each}
use Rattle.rest_places.proofs.Steps.{no_core, retyped}
use Rattle.rest_places.proofs.Values.{values_hold_values}

-- functions of representable values, up to naturals
record FromEach (datas : List Data) (n : ℕ) (u : TypeTree) : Type 0 where
  pub takes : List TypeTree
  pub gives : TypeTree
  pub is : u ≡ from_each takes gives
  pub many : length takes ≡ n
  pub values : AllByRecursion (Representable datas) takes
  pub value : Representable datas gives

from_same : SameKeepsNamed → (s : Setting) → IsSound s → (ts : List TypeTree) (r u : TypeTree) → SameTypes (from_each ts r) u → HasKind s [] (from_each ts r) Val → AllByRecursion (Representable s.datas) ts → Representable s.datas r → FromEach s.datas (length ts) u
from_same kept s sound [] r u x k all v = record { takes = []; gives = u; is = refl; many = refl; values = tt; value = kept s V r u Val sound k x v }
from_same kept s sound (t ∷ ts) r u x k all v =
    let parts = as_function x in
    let kinds = value_parts s k in
    let rest = from_same kept s sound ts r parts.1 parts.4 kinds.1 all.1 v in
    record {
      takes = parts.0 ∷ rest.takes;
      gives = rest.gives;
      is = parts.2 ∙ ap (fun parts.0) rest.is;
      many = ap suc rest.many;
      values = (kept s V t parts.0 Val sound kinds.0 parts.3 all.0, rest.values);
      value = rest.value;
    }

value_asks : {datas : List Data} {t : TypeTree} → Representable datas t → asked_for t ≡ 0
value_asks representable_scalar = refl
value_asks (representable_vector r) = refl
value_asks (representable_data is many all) = refl

asked_from : {datas : List Data} (ts : List TypeTree) (r : TypeTree) → Representable datas r → asked_for (from_each ts r) ≡ length ts
asked_from [] r v = value_asks v
asked_from (t ∷ ts) r v = ap suc (asked_from ts r v)

less_or_not : (m n : ℕ) → (m < n) ⊎ (n ≤ m)
less_or_not m zero = inr (omega arith)
less_or_not zero (suc n) = inl (omega arith)
less_or_not (suc m) (suc n) = elim (less_or_not m n) [ inl h ↦ inl (omega (arith, h)) | inr h ↦ inr (omega (arith, h)) ]

found_within : (xs : List TypeTree) (i : ℕ) → i < length xs → (x : TypeTree) × (slice_get xs i ≡ Some x)
found_within [] i l = absurd (omega (arith, l))
found_within (x ∷ xs) zero l = (x, refl)
found_within (x ∷ xs) (suc i) l = found_within xs i (omega (arith, l))

-- in circuits the variables in scope are ports
scope_port : {datas : List Data} (m : Mode) {t : TypeTree} → IsOfCircuit m → IsNamed datas (ground m) t → IsPort datas t
scope_port C c p = p
scope_port HC c p = p
scope_port V c p = absurd c
scope_port HV c p = absurd c
scope_port K c p = absurd c

made_or_not : (g : TermTree) → ((m : ℕ) × (g ≡ made m)) ⊎ (IsMade g → ⊥)
made_or_not (made m) = inl (m, refl)
made_or_not _ = inr (λ k. k)

-- some number is that of a made definition with this origin
no_number : (o : Origins) (e : TermTree) → ((m : ℕ) → IsNumberOf o e m → ⊥) → ⊥
no_number o e h = h (length o.made) (inr refl, λ j l has. none_of_each (HasOrigin o e) (λ i k first. h i (inl k, first)) j has)

made_type : (o : Origins) {vars : List TypeTree} {m : ℕ} {u : TypeTree} → HasType (setting_at o) [] vars (made m) u → (it : MadeOf) × (slice_get o.made m ≡ Some it) × (it.ty ≡ u)
made_type o (h_made {m = m} {t = t} is) = found_before_map (λ (m : MadeOf). m.ty) o.made m t is

variable_type : {s : Setting} {vars : List TypeTree} {x : ℕ} {t : TypeTree} → HasType s [] vars (var x) t → slice_get vars x ≡ Some t
variable_type (h_var is) = is

no_function_port : {datas : List Data} {a b : TypeTree} → IsPort datas (fun a b) → ⊥
no_function_port p = elim p.1 [ ]

first_named : {datas : List Data} {a b : TypeTree} → LeadsToNamed datas C (fun a b) → IsPort datas a
first_named (to_named p) = absurd (no_function_port p)
first_named (from_named p l) = p

module _ (decided : NamedIsDecided) (kept : SameKeepsNamed) (kind_named : NamedIsTermKind) (o : Origins) (named : MadeAreNamed o) where
  -- no port is a type of values
  no_value_port : (t : TypeTree) → IsSound (setting_at o) → HasKind (setting_at o) [] t Val → IsPort o.program.datas t → ⊥
  no_value_port t sound v p = let wrong : Val ≡ Cir = kind_named (setting_at o) C t Val sound v p in cc

  -- a term of values is closed in a circuit
  closed_there : (at : Spot) (e g : TermTree) (t u : TypeTree) → IsOfCircuit at.mode → IsRestPlace o at e t → HasType (setting_at o) [] at.vars g u → HasKind (setting_at o) [] u Val → IsClosed g
  closed_there at e g t u c p d v x = by (occurs g x) refl
    where
      by : (b : Bool) → occurs g x ≡ b → occurs g x ≡ false
      by false q = q
      by true q =
          let there = found_within at.vars x (in_scope d x q) in
          let port = scope_port at.mode c (all_at (IsNamed o.program.datas (ground at.mode)) at.vars x there.0 p.named there.1) in
          let value = values_hold_values (setting_at o) [] at.vars g u x there.0 p.place.sound p.place.vars d v q there.1 in
          absurd (no_value_port there.0 p.place.sound value port)

  -- the payload of a signal that is a variable
  variable_payload : (at : Spot) (e : TermTree) (x : ℕ) (d a t : TypeTree) → IsOfCircuit at.mode → IsRestPlace o at e t → HasKind (setting_at o) [] a Val → HasTypeUpTo (setting_at o) [] at.vars (var x) (signal d a) → Representable o.program.datas a
  variable_payload at e x d a t c p k given =
      let parts = as_signal given.same in
      let has = subst (HasType (setting_at o) [] at.vars (var x)) parts.2 given.has in
      let port = scope_port at.mode c (all_at (IsNamed o.program.datas (ground at.mode)) at.vars x (signal parts.0 parts.1) p.named (variable_type has)) in
      let kinded = type_kinded has p.place.sound p.place.vars in
      kept (setting_at o) V parts.1 a Val p.place.sound (payload_kind (setting_at o) kinded.has) (same_turned parts.4) (payload_of port.1)

  no_lifted : (at : Spot) (d a b : TypeTree) (g s : TermTree) (t : TypeTree) (n : ℕ) (takes : List TypeTree) (gives : TypeTree) → IsOfCircuit at.mode → length takes ≡ suc n → Finds (setting_at o) [] at.vars g (from_each takes gives) → IsClosed g → (IsMade g → ⊥) → AllByRecursion (Representable o.program.datas) takes → Representable o.program.datas gives → IsRestPlace o at (fmap_of d a b g s) t → ⊥
  no_lifted at d a b g s t n [] gives c many finds closed other values value p = omega (arith, many)
  no_lifted at d a b g s t n (u ∷ takes) gives c many finds closed other values value p = by (less_or_not (leading_lambdas g) (length (u ∷ takes)))
    where
      lifted : IsLifted o at g u takes gives
      lifted = record { closed = closed; not_made = other; has = finds; takes = values; gives = value }

      by : (leading_lambdas g < length (u ∷ takes)) ⊎ (length (u ∷ takes) ≤ leading_lambdas g) → ⊥
      by (inl less) = no_core Eta (fmap_of d a b g s) _ [] (eta c lifted less) p
      by (inr enough) = no_number o (origin_of o g) (λ m is. no_core Spec (fmap_of d a b g s) _ [] (spec_function c lifted enough is) p)

  -- a made definition of such a type gives a value
  takes_as_many : (m n : ℕ) (vars : List TypeTree) (u : TypeTree) → IsSound (setting_at o) → HasType (setting_at o) [] vars (made m) u → HasKind (setting_at o) [] u Val → FromEach o.program.datas (suc n) u → TakesAsMany o m (suc n)
  takes_as_many m n vars u sound d v from =
      let it = made_type o d in
      (it.0, it.1, sort it.0 it.1 it.2 it.0.sort refl, sym (ap asked_for (it.2 ∙ from.is) ∙ asked_from from.takes from.gives from.value ∙ from.many))
    where
      no_circuit : (takes : List TypeTree) (gives : TypeTree) → length takes ≡ suc n → u ≡ from_each takes gives → LeadsToNamed o.program.datas C u → ⊥
      no_circuit [] gives many is l = omega (arith, many)
      no_circuit (a ∷ takes) gives many is l =
          let kind = subst (λ t. HasKind (setting_at o) [] t Val) is v in
          no_value_port a sound (value_parts (setting_at o) kind).0 (first_named (subst (LeadsToNamed o.program.datas C) is l))

      sort : (it : MadeOf) → slice_get o.made m ≡ Some it → it.ty ≡ u → (s : Sort) → it.sort ≡ s → it.sort ≡ Value
      sort it there is Value q = q
      sort it there is Circuit q =
          let leads = subst (λ s. LeadsToNamed o.program.datas (mode_of s) it.ty) q (named m it there) in
          absurd (no_circuit from.takes from.gives from.many from.is (subst (LeadsToNamed o.program.datas C) is leads))

  -- the function that is mapped first
  function_made : (at : Spot) (d a b : TypeTree) (g s : TermTree) (t r : TypeTree) (ts : List TypeTree) → IsOfCircuit at.mode → IsRestPlace o at (fmap_of d a b g s) t → HasTypeUpTo (setting_at o) [] at.vars g (from_each (a ∷ ts) r) → HasKind (setting_at o) [] (from_each (a ∷ ts) r) Val → AllByRecursion (Representable o.program.datas) (a ∷ ts) → Representable o.program.datas r → (m : ℕ) × (g ≡ made m) × TakesAsMany o m (suc (length ts))
  function_made at d a b g s t r ts c p given k all value = by (made_or_not g)
    where
      sound : IsSound (setting_at o)
      sound = p.place.sound

      values : HasKind (setting_at o) [] given.type Val
      values = let of = type_kinded given.has sound p.place.vars in subst (HasKind (setting_at o) [] given.type) (sym (same_kind given.same k of.has)) of.has

      by : ((m : ℕ) × (g ≡ made m)) ⊎ (IsMade g → ⊥) → (m : ℕ) × (g ≡ made m) × TakesAsMany o m (suc (length ts))
      by (inl (m, is)) = (m, is, takes_as_many m (length ts) at.vars given.type sound (subst (λ g. HasType (setting_at o) [] at.vars g given.type) is given.has) values (from_same kept (setting_at o) sound (a ∷ ts) r given.type given.same k all value))
      by (inr other) =
          let found = typed_found g given.has sound p.place.vars in
          let from = from_same kept (setting_at o) sound (a ∷ ts) r found.type (same_through given.same found.same) k all value in
          absurd (no_lifted at d a b g s t (length ts) from.takes from.gives c from.many (subst (Finds (setting_at o) [] at.vars g) from.is found.is) (closed_there at (fmap_of d a b g s) g t given.type c p given.has values) other from.values from.value p)

  -- a chain whose values take further arguments
  chain_made : {e : TermTree} {n : ℕ} → IsChain e n → (at : Spot) (d w r : TypeTree) (ts : List TypeTree) → IsOfCircuit at.mode → IsRestPlace o at e (signal d w) → SameTypes (from_each ts r) w → HasKind (setting_at o) [] (from_each ts r) Val → AllByRecursion (Representable o.program.datas) ts → Representable o.program.datas r → (m : ℕ) × IsLiftedCall m e n × TakesAsMany o m (n + length ts)
  chain_made (chain_on_one {d = d'} {a = a} {b = b} {g = g} {x = x}) at d w r ts c p same k all value =
      let parts = fmap_parts p.place.sound p.place.vars p.has in
      let payload = variable_payload at (fmap_of d' a b g (var x)) x d' a (signal d w) c p parts.taken parts.on in
      let of = up_to_as parts.function (same_fun (same_self a) (same_through (same_payload parts.gives).1 (same_turned same))) in
      let it = function_made at d' a b g (var x) (signal d w) r ts c p of (kind_fun parts.taken k tt) (payload, all) value in
      let count : suc (length ts) ≡ 1 + length ts = omega arith in
      (it.0, subst (λ g. IsLiftedCall it.0 (fmap_of d' a b g (var x)) 1) (sym it.1) lifted_on_one, subst (TakesAsMany o it.0) count it.2)
  chain_made (chain_on_more {d = d'} {a = a} {b = b} {u = u} {x = x} {n = n} more) at d w r ts c p same k all value =
      let parts = ap_parts p.place.sound p.place.vars p.has in
      let payload = variable_payload at (ap_of d' a b u (var x)) x d' a (signal d w) c p parts.taken parts.on in
      let sig = as_signal parts.function.same in
      let has = subst (HasType (setting_at o) [] at.vars u) sig.2 parts.function.has in
      let inner = as_function sig.4 in
      let no_port : IsPort o.program.datas (signal sig.0 sig.1) → ⊥ = λ q. no_function (subst (Representable o.program.datas) inner.2 (payload_of q.1)) in
      let to = spot (head_mode at.mode) false at.vars in
      let b' = demanded {p = Ap} {i = 3} {args = types_then (d' ∷ a ∷ b ∷ []) (u ∷ var x ∷ [])} (record { no_constant = not_constant c; looks = inl refl; is = refl; type = signal sig.0 sig.1; has = has; unnamed = λ q. no_port (named_port at.mode c q) }) in
      let there = retyped (rest_below decided o at to (ap_of d' a b u (var x)) u (signal d w) _ p b').1 has in
      let types = same_through (same_fun (same_self a) (same_through same (same_turned (same_payload parts.gives).1))) sig.4 in
      let it = chain_made more to sig.0 sig.1 r (a ∷ ts) (subst IsOfCircuit (sym (circuit_head at.mode c)) tt) there types (kind_fun parts.taken k tt) (payload, all) value in
      let count : n + length (a ∷ ts) ≡ suc n + length ts = omega arith in
      (it.0, lifted_on_more it.1, subst (TakesAsMany o it.0) count it.2)

  pub lifted_is_made : (at : Spot) (e : TermTree) (d b : TypeTree) (n : ℕ) → IsOfCircuit at.mode → IsRestPlace o at e (signal d b) → Representable o.program.datas b → IsChain e n → (m : ℕ) × IsLiftedCall m e n × TakesAsMany o m n
  lifted_is_made at e d b n c p value chain =
      let kinded = type_kinded p.has p.place.sound p.place.vars in
      let it = chain_made chain at d b b [] c p (same_self b) (payload_kind (setting_at o) kinded.has) tt value in
      let count : n + 0 ≡ n = omega arith in
      (it.0, it.1, subst (TakesAsMany o it.0) count it.2)
