-- Signals at rest in circuits, on which functions are mapped.
use Rattle.std.proofs.Common.{◌≡◌, ◌⊎◌, ◌<◌, inl, inr, refl, sym, subst, ℕ, suc, Bool, false, List, [], ◌∷◌, length, arith, Some}
use Rattle.std.specs.List.{slice_get}
use Rattle.chw_types.specs.declared.kind.Kind.TheVariants.{Val, Cir}
use Rattle.chw_types.specs.declared.kind.Scalar.{Scalar}
use Rattle.chw_types.specs.Kinds.{kind_fun}
use Rattle.chw_types.specs.SameTypes.{SameTypes}
use Rattle.chw_types.specs.TypeTree.{TypeTree, data_of, fun, signal}
use Rattle.chw_types.proofs.SameLaws.{same_turned, same_through}
use Rattle.type_laws.proofs.SameForms.{as_data, as_domain, as_function, as_signal}
use Rattle.type_ports.specs.Ports.{IsPort}
use Rattle.type_ports.specs.Representable.{Representable}
use Rattle.chw_prims.specs.declared.prim.Primitive.{Primitive as Prim}
use Rattle.chw_prims.specs.declared.prim.Primitive.TheVariants.{Fmap, Ap}
use Rattle.chw_prims.specs.Schemas.{schema_type}
use Rattle.chw_terms.specs.declared.rule.Rule.TheVariants.{ApPure}
use Rattle.chw_terms.specs.declared.scene.Mode.TheVariants.{V, HC}
use Rattle.chw_terms.specs.declared.term.Arg.{Arg}
use Rattle.chw_terms.specs.declared.term.Arg.TheVariants.{OfTerm}
use Rattle.chw_terms.specs.TermSize.{tree_size}
use Rattle.chw_terms.specs.TermTree.{TermTree, var, prim, lit, vec_lit, Terms}
use Rattle.chw_terms.specs.TermView.{applied}
use Rattle.chw_typing.specs.Given.{types_then, AsksForNone}
use Rattle.chw_typing.specs.Scopes.{Setting, HasKind, IsTermType}
use Rattle.chw_typing.specs.Typing.{HasType, h_lit, h_vec, HasTypeUpTo}
use Rattle.chw_typing.proofs.Kinded.{type_kinded}
use Rattle.chw_typing.proofs.Saturated.{con_at_arguments}
use Rattle.chw_typing.proofs.TypedFound.{typed_found}
use Rattle.rewriting.specs.Active.{Demands, demanded}
use Rattle.rewriting.specs.Lifted.{IsFused, IsNotPure, FindsAt, Joins, ap_pure, fmap_pure, fmap_fmap, fmap_ap, ap_value, ap_fmap, ap_ap}
use Rattle.rewriting.specs.Named.{IsNamed}
use Rattle.rewriting.specs.Operands.{of_prim}
use Rattle.rewriting.specs.Origins.{Origins, setting_at}
use Rattle.rewriting.specs.SceneLaws.{NamedIsDecided, SameKeepsNamed}
use Rattle.rewriting.specs.Shapes.{IsOfCircuit, IsVariable, fmap_of, ap_of}
use Rattle.rewriting.specs.Signals.{join}
use Rattle.rewriting.specs.Spots.{Spot, spot, head_mode, asked_for, LooksAt}
use Rattle.rule_types.proofs.Applied.{IsDomain, OnSignals, fmap_parts, ap_parts, payload_kind}
use Rattle.rest_places.specs.Chains.{IsChain, chain_on_one, chain_on_more}
use Rattle.rest_places.specs.CircuitHeads.{IsPure, pure_value, IsLeftInHead}
use Rattle.rest_places.specs.Constants.{IsSaturatedCon, taken_letrec, taken_case, taken_constructor, taken_literal, taken_vector}
use Rattle.rest_places.specs.Rest.{IsRestPlace}
use Rattle.rest_places.proofs.Below.{rest_below}
use Rattle.rest_places.proofs.Demanded.{no_demanded_let, no_demanded_case}
use Rattle.rest_places.proofs.Ports.{payload_of, signal_port, no_function, signal_kind, port_named, named_port, circuit_head, not_constant}
use Rattle.rest_places.proofs.Operands.{operands_are_variables}
use Rattle.rest_places.proofs.Smaller.{below_smaller}
use Rattle.rest_places.proofs.Steps.{no_core, retyped}

-- constructors, literals and vectors are no signals
literal_no_signal : {s : Setting} {vars : List TypeTree} {r : Scalar} {bits : List Bool} {d a : TypeTree} → HasType s [] vars (lit r bits) (signal d a) → ⊥
literal_no_signal d = by d refl
  where
    by : {s : Setting} {vars : List TypeTree} {r : Scalar} {bits : List Bool} {d a t : TypeTree} → HasType s [] vars (lit r bits) t → t ≡ signal d a → ⊥
    by (h_lit l) q = cc

vector_no_signal : {s : Setting} {vars : List TypeTree} {u : TypeTree} {es : Terms} {d a : TypeTree} → HasType s [] vars (vec_lit u es) (signal d a) → ⊥
vector_no_signal d = by d refl
  where
    by : {s : Setting} {vars : List TypeTree} {u : TypeTree} {es : Terms} {d a t : TypeTree} → HasType s [] vars (vec_lit u es) t → t ≡ signal d a → ⊥
    by (h_vec l e) q = cc

constructor_no_signal : {o : Origins} {at : Spot} {e : TermTree} {d a : TypeTree} → IsRestPlace o at e (signal d a) → IsSaturatedCon o.program.datas e → ⊥
constructor_no_signal {o} {at} {d = d} {a = a} p k =
    let has = subst (λ e. HasType (setting_at o) [] at.vars e (signal d a)) k.term p.has in
    let of = as_data (con_at_arguments (setting_at o) [] at.vars k.con_number k.it k.types k.es (signal d a) p.place.sound p.place.vars k.is k.on_types k.on_terms has).2 in
    let wrong : signal d a ≡ data_of k.it.of of.0 = of.1 in
    cc

-- no chain is a signal of one value
not_pure : {u : TermTree} {n : ℕ} → IsChain u n → IsNotPure u
not_pure chain_on_one d a f q = cc
not_pure (chain_on_more c) d a f q = cc

module _ (decided : NamedIsDecided) (kept : SameKeepsNamed) (o : Origins) where
  abbrev pub HeadsBelow : ℕ → Type 0
  HeadsBelow n = (at : Spot) (e : TermTree) (t : TypeTree) → tree_size e < n → at.mode ≡ HC → IsRestPlace o at e t → AsksForNone t → HasKind (setting_at o) [] t Cir → (IsPort o.program.datas t → ⊥) → IsLeftInHead o.program.datas e

  -- the type that is found
  function_found : (at : Spot) (g : TermTree) (a b e t : TypeTree) {x : TermTree} → IsRestPlace o at x t → HasTypeUpTo (setting_at o) [] at.vars g (fun a b) → (c : TypeTree) × (r : TypeTree) × FindsAt o at g (fun c r)
  function_found at g a b e t p given =
      let found = typed_found g given.has p.place.sound p.place.vars in
      let parts = as_function (same_through given.same found.same) in
      (parts.0, parts.1, subst (FindsAt o at g) parts.2 found.is)

  signal_found : (at : Spot) (u : TermTree) (d a t : TypeTree) {x : TermTree} → IsRestPlace o at x t → HasTypeUpTo (setting_at o) [] at.vars u (signal d a) → (i : TypeTree) × (th : TypeTree) × FindsAt o at u (signal i th) × SameTypes a th
  signal_found at u d a t p given =
      let found = typed_found u given.has p.place.sound p.place.vars in
      let parts = as_signal (same_through given.same found.same) in
      (parts.0, parts.1, subst (FindsAt o at u) parts.2 found.is, parts.4)

  functions_found : (at : Spot) (u : TermTree) (d a b t : TypeTree) {x : TermTree} → IsRestPlace o at x t → HasTypeUpTo (setting_at o) [] at.vars u (signal d (fun a b)) → (i : TypeTree) × (tx : TypeTree) × (r : TypeTree) × FindsAt o at u (signal i (fun tx r))
  functions_found at u d a b t p given =
      let found = signal_found at u d (fun a b) t p given in
      let parts = as_function found.3 in
      (found.0, parts.0, parts.1, subst (λ th. FindsAt o at u (signal found.0 th)) parts.2 found.2)

  -- a signal of a named type is a variable
  signal_named : (at : Spot) (s : TermTree) (d a t : TypeTree) {x : TermTree} → IsOfCircuit at.mode → IsRestPlace o at x t → IsDomain (setting_at o) d → HasKind (setting_at o) [] a Val → Representable o.program.datas a → (given : HasTypeUpTo (setting_at o) [] at.vars s (signal d a)) → IsNamed o.program.datas at.mode given.type
  signal_named at s d a t c p in_domain kind r given =
      let parts = as_signal given.same in
      let place = as_domain (subst (λ d. SameTypes d parts.0) in_domain.1 parts.3) in
      let value = kept (setting_at o) V a parts.1 Val p.place.sound kind parts.4 r in
      let port = subst (λ e. IsPort o.program.datas (signal e parts.1)) (sym place) (signal_port in_domain.0 value) in
      port_named at.mode c (subst (IsPort o.program.datas) (sym parts.2) port)

  -- one of another type is one of one value, or a chain
  pub signal_left : (n : ℕ) → HeadsBelow n → (at : Spot) (p : Prim) (args : List Arg) (i : ℕ) (s : TermTree) (d a t : TypeTree) → IsOfCircuit at.mode → length args ≡ asked_for (schema_type p) → LooksAt p i → slice_get args i ≡ Some (OfTerm s) → tree_size (applied (prim p) args) < suc n → IsRestPlace o at (applied (prim p) args) t → HasKind (setting_at o) [] a Val → HasTypeUpTo (setting_at o) [] at.vars s (signal d a) → (Representable o.program.datas a → ⊥) → IsPure s ⊎ ((n : ℕ) × IsChain s n)
  signal_left n below at p args i s d a t c l looks is small rest kind given no_value =
      by s (below to s (signal parts.0 parts.1) (omega (arith, small, less)) (circuit_head at.mode c) there tt (signal_kind kinded.has) no_port) there demand
    where
      parts : (e : TypeTree) × (v : TypeTree) × (given.type ≡ signal e v) × SameTypes d e × SameTypes a v
      parts = as_signal given.same

      has : HasType (setting_at o) [] at.vars s (signal parts.0 parts.1)
      has = subst (HasType (setting_at o) [] at.vars s) parts.2 given.has

      kinded : IsTermType (setting_at o) [] (signal parts.0 parts.1)
      kinded = type_kinded has rest.place.sound rest.place.vars

      no_port : IsPort o.program.datas (signal parts.0 parts.1) → ⊥
      no_port port = no_value (kept (setting_at o) V parts.1 a Val rest.place.sound (payload_kind (setting_at o) kinded.has) (same_turned parts.4) (payload_of port.1))

      demand : Demands o at p args i s
      demand = record { no_constant = not_constant c; looks = looks; is = is; type = signal parts.0 parts.1; has = has; unnamed = λ n. no_port (named_port at.mode c n) }

      to : Spot
      to = spot (head_mode at.mode) false at.vars

      there : IsRestPlace o to s (signal parts.0 parts.1)
      there = retyped (rest_below decided o at to (applied (prim p) args) s t _ rest (demanded demand)).1 has

      less : tree_size s < tree_size (applied (prim p) args)
      less = below_smaller (demanded demand)

      by : (x : TermTree) → IsLeftInHead o.program.datas x → IsRestPlace o to x (signal parts.0 parts.1) → Demands o at p args i x → IsPure x ⊎ ((n : ℕ) × IsChain x n)
      by x (inl (taken_letrec {g = g} {e = e})) q m = absurd (no_demanded_let o at p args [] t i l rest (g, e, m))
      by x (inl (taken_case {e = e} {alts = alts})) q m = absurd (no_demanded_case o at p args [] t i l rest (e, alts, m))
      by x (inl (taken_constructor k)) q m = absurd (constructor_no_signal q k)
      by x (inl taken_literal) q m = absurd (literal_no_signal q.has)
      by x (inl taken_vector) q m = absurd (vector_no_signal q.has)
      by x (inr left) q m = left

  -- no function is mapped on a signal of one value, or on a chain
  no_join : (at : Spot) (e new : TermTree) (t : TypeTree) → IsOfCircuit at.mode → Joins o at e new → IsRestPlace o at e t → ⊥
  no_join at e new t c j p = no_core ApPure e new [] (join c j) p

  fmap_unnamed : (at : Spot) (d a b : TypeTree) (f s : TermTree) (t : TypeTree) → IsOfCircuit at.mode → IsFused o a → IsRestPlace o at (fmap_of d a b f s) t → HasTypeUpTo (setting_at o) [] at.vars s (signal d a) → IsPure s ⊎ ((n : ℕ) × IsChain s n) → ⊥
  fmap_unnamed at d a b f s t c fused p given (inl pure_value) = no_join at _ _ t c fmap_pure p
  fmap_unnamed at d a b f s t c fused p given (inr (n, chain_on_one {d = d'} {a = a'} {b = b'} {g = g})) =
      let parts = fmap_parts p.place.sound p.place.vars given.has in
      let found = function_found at g a' b' d' t p parts.function in
      no_join at _ _ t c (fmap_fmap fused found.2) p
  fmap_unnamed at d a b f s t c fused p given (inr (n, chain_on_more {d = d'} {a = a'} {b = b'} {u = u} k)) =
      let parts = ap_parts p.place.sound p.place.vars given.has in
      let found = functions_found at u d' a' b' t p parts.function in
      no_join at _ _ t c (fmap_ap fused found.3) p

  ap_unnamed : (at : Spot) (d a b : TypeTree) (u s : TermTree) (t th : TypeTree) (k : ℕ) → IsOfCircuit at.mode → IsFused o a → IsRestPlace o at (ap_of d a b u s) t → IsChain u k → HasTypeUpTo (setting_at o) [] at.vars u (signal d th) → HasTypeUpTo (setting_at o) [] at.vars s (signal d a) → IsPure s ⊎ ((n : ℕ) × IsChain s n) → ⊥
  ap_unnamed at d a b u s t th k c fused p chain first given (inl pure_value) =
      let of = signal_found at u d th t p first in
      no_join at _ _ t c (ap_value (not_pure chain) fused of.2) p
  ap_unnamed at d a b u s t th k c fused p chain first given (inr (n, chain_on_one {d = d'} {a = a'} {b = b'} {g = g})) =
      let of = signal_found at u d th t p first in
      let parts = fmap_parts p.place.sound p.place.vars given.has in
      let found = function_found at g a' b' d' t p parts.function in
      no_join at _ _ t c (ap_fmap (not_pure chain) fused of.2 found.2) p
  ap_unnamed at d a b u s t th k c fused p chain first given (inr (n, chain_on_more {d = d'} {a = a'} {b = b'} {u = v} rest)) =
      let of = signal_found at u d th t p first in
      let parts = ap_parts p.place.sound p.place.vars given.has in
      let found = functions_found at v d' a' b' t p parts.function in
      no_join at _ _ t c (ap_ap (not_pure chain) fused of.2 found.3) p

  -- a function on signals at rest, where what is smaller is so: on variables alone
  chain_of_variable : (d a b : TypeTree) (f s : TermTree) → IsVariable s → IsChain (fmap_of d a b f s) 1
  chain_of_variable d a b f (var x) v = chain_on_one
  chain_of_variable d a b f _ v = absurd v

  chain_with_variable : (d a b : TypeTree) (u s : TermTree) (n : ℕ) → IsVariable s → IsChain u n → IsChain (ap_of d a b u s) (suc n)
  chain_with_variable d a b u (var x) n v k = chain_on_more k
  chain_with_variable d a b u _ n v k = absurd v

  pub fmap_chain : (n : ℕ) → HeadsBelow n → (at : Spot) (d a b : TypeTree) (f s : TermTree) (t : TypeTree) → IsOfCircuit at.mode → tree_size (fmap_of d a b f s) < suc n → IsRestPlace o at (fmap_of d a b f s) t → IsChain (fmap_of d a b f s) 1
  fmap_chain n below at d a b f s t c small p = by (decided o.program.datas V a p.acyclic)
    where
      parts : OnSignals (setting_at o) at.vars d a b (fun a b) f s t
      parts = fmap_parts p.place.sound p.place.vars p.has

      by : Representable o.program.datas a ⊎ (Representable o.program.datas a → ⊥) → IsChain (fmap_of d a b f s) 1
      by (inl r) =
          chain_of_variable d a b f s
          (operands_are_variables o at (fmap_of d a b f s) [] t _ s parts.on.type p
          (of_prim Fmap (types_then (d ∷ a ∷ b ∷ []) (f ∷ s ∷ [])) 4 refl (inr (inr refl)) refl) parts.on.has (signal_named at s d a t c p parts.in_domain parts.taken r parts.on))
      by (inr fused) = absurd (fmap_unnamed at d a b f s t c fused p parts.on (signal_left n below at Fmap (types_then (d ∷ a ∷ b ∷ []) (f ∷ s ∷ [])) 4 s d a t c refl refl refl small p parts.taken parts.on fused))

  pub ap_chain : (n : ℕ) → HeadsBelow n → (at : Spot) (d a b : TypeTree) (u s : TermTree) (t : TypeTree) → IsOfCircuit at.mode → tree_size (ap_of d a b u s) < suc n → IsRestPlace o at (ap_of d a b u s) t → (m : ℕ) × IsChain (ap_of d a b u s) m
  ap_chain n below at d a b u s t c small p = on (signal_left n below at Ap args 3 u d (fun a b) t c refl (inl refl) refl small p functions parts.function no_function)
    where
      args : List Arg
      args = types_then (d ∷ a ∷ b ∷ []) (u ∷ s ∷ [])

      parts : OnSignals (setting_at o) at.vars d a b (signal d (fun a b)) u s t
      parts = ap_parts p.place.sound p.place.vars p.has

      functions : HasKind (setting_at o) [] (fun a b) Val
      functions = kind_fun parts.taken parts.given tt

      by : (m : ℕ) → IsChain u m → Representable o.program.datas a ⊎ (Representable o.program.datas a → ⊥) → (m : ℕ) × IsChain (ap_of d a b u s) m
      by m k (inl r) = (
        suc m,
        chain_with_variable d a b u s m
            (operands_are_variables o at (ap_of d a b u s) [] t _ s parts.on.type p (of_prim Ap args 4 refl (inr (inr (inr refl))) refl) parts.on.has (signal_named at s d a t c p parts.in_domain parts.taken r parts.on))
            k,
      )
      by m k (inr fused) = absurd (ap_unnamed at d a b u s t (fun a b) m c fused p k parts.function parts.on (signal_left n below at Ap args 4 s d a t c refl (inr refl) refl small p parts.taken parts.on fused))

      no_pure : (x : TermTree) → IsPure x → IsRestPlace o at (ap_of d a b x s) t → ⊥
      no_pure x pure_value q = no_join at _ _ t c ap_pure q

      on : IsPure u ⊎ ((n : ℕ) × IsChain u n) → (m : ℕ) × IsChain (ap_of d a b u s) m
      on (inl h) = absurd (no_pure u h p)
      on (inr k) = by k.0 k.1 (decided o.program.datas V a p.acyclic)
