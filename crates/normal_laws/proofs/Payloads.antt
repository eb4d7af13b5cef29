-- No payload blocks a body in normal form.
use Rattle.std.proofs.Common.{◌≡◌, ◌⊎◌, inl, inr, ℕ, Bool, true, List, [], ◌∷◌, Some, refl, subst}
use Rattle.std.specs.List.{slice_get}
use Rattle.chw_types.specs.declared.declarations.Data.{Data}
use Rattle.chw_types.specs.declared.kind.Kind.{Kind}
use Rattle.chw_types.specs.declared.kind.Kind.TheVariants.{Nat, Dom, Val}
use Rattle.chw_types.specs.declared.kind.Scalar.TheVariants.{U}
use Rattle.type_ports.specs.declared.ports.Leaf.{Leaf}
use Rattle.chw_types.specs.Kinds.{kind_signal}
use Rattle.type_ports.specs.Ports.{Leaves, one_leaf, leaves_of_fields, IsPort}
use Rattle.type_ports.specs.Representable.{Representable}
use Rattle.chw_types.specs.SameTypes.{SameTypes}
use Rattle.chw_types.specs.TypeMoves.{sub}
use Rattle.chw_types.specs.TypeTree.{TypeTree, ty_var, nat_lit, nat_sum, scalar, vector, signal}
use Rattle.chw_types.proofs.SameLaws.{same_turned}
use Rattle.type_laws.specs.SameKept.{FieldsKeepSame}
use Rattle.type_laws.proofs.SameForms.{as_signal}
use Rattle.chw_prims.specs.declared.prim.Primitive.{Primitive as Prim}
use Rattle.chw_prims.specs.declared.prim.Primitive.TheVariants.{Register, BlockRam, UnsafeSynchronizer}
use Rattle.chw_prims.specs.Schemas.{maybe, pair}
use Rattle.chw_terms.specs.declared.scene.Mode.TheVariants.{C}
use Rattle.chw_terms.specs.declared.scene.Sort.{Sort}
use Rattle.chw_terms.specs.declared.scene.Sort.TheVariants.{Value, Circuit}
use Rattle.chw_terms.specs.declared.term.Arg.{Arg}
use Rattle.chw_terms.specs.declared.term.Arg.TheVariants.{OfTerm, OfType}
use Rattle.chw_terms.specs.TermTree.{TermTree, var, prim, letrec, Group}
use Rattle.chw_terms.specs.TermView.{applied}
use Rattle.chw_typing.specs.Programs.{IsSound}
use Rattle.chw_typing.specs.Scopes.{Setting, HasKind, IsTermType, AreTermTypes, with_more, declared}
use Rattle.chw_typing.specs.Typing.{HasType, HasTypeUpTo}
use Rattle.chw_typing.proofs.Kinded.{type_kinded}
use Rattle.chw_typing.specs.Given.{types_then, AsksForNone}
use Rattle.chw_typing.specs.SpineLaws.{PrimAtArguments}
use Rattle.chw_typing.proofs.SameNames.{representable_same}
use Rattle.chw_typing.proofs.Typed.{part_typed}
use Rattle.rewriting.specs.Named.{IsNamed, mode_of}
use Rattle.rewriting.specs.Origins.{MadeOf, Origins, setting_at}
use Rattle.rewriting.specs.SceneLaws.{SameKeepsNamed}
use Rattle.rewriting.specs.Active.{Below, right_side, let_body, constant_body, scrutinee, branch, of_constructor, of_words, of_element, of_vector, demanded, begins, IsActive, at_it, below, IsPlaceOf}
use Rattle.rewriting.specs.Spots.{Spot, spot, IsOnWords, TakesElement}
use Rattle.rewriting.proofs.Around.{place_around}
use Rattle.rewriting.proofs.Lambdas.{one_under}
use Rattle.normal_forms.specs.Blocked.{Block, payload, HasPayload, BlocksAt, by_recursion, by_payload, by_limit, IsBlocked, at_place, at_lambda}
use Rattle.normal_forms.specs.Normal.{IsNormalBody}
use Rattle.normal_laws.proofs.Forms.{LiftedPrim, on_made, on_lifted, CircuitPrim, as_register, as_ram, as_synchronizer, as_pure, as_lifted}
use Rattle.normal_laws.proofs.Places.{Stands, PrimStands, in_values, in_circuits, in_lifted, prim_stands, place_stands}
use Rattle.normal_laws.proofs.Typed.{SideTyped, let_typed, head_no_circuit, scrutinee_no_circuit, under_typed, result_kind}

-- the laws that are cited
pub record Ground (o : Origins) : Type 0 where
  pub sound : IsSound (setting_at o)
  pub named : SameKeepsNamed
  pub prims : PrimAtArguments
  pub keep : FieldsKeepSame

-- of a type that is a port
pub record Ported (o : Origins) (at : Spot) (e : TermTree) : Type 0 where
  pub type : TypeTree
  pub has : HasType (setting_at o) [] at.vars e type
  pub port : IsPort o.program.datas type

port_asks_none : {datas : List Data} {t : TypeTree} {ls : List Leaf} → Leaves datas t ls → AsksForNone t
port_asks_none (one_leaf r) = tt
port_asks_none (leaves_of_fields known many one fields all) = tt

payload_of : {datas : List Data} {d t : TypeTree} {ls : List Leaf} → Leaves datas (signal d t) ls → Representable datas t
payload_of (one_leaf r) = r

payload_kind : (s : Setting) (d t : TypeTree) (k : Kind) → HasKind s [] (signal d t) k → HasKind s [] t Val
payload_kind s d t k (kind_signal e f) = f

module _ (o : Origins) (ground : Ground o) where
  ported_let : (at : Spot) (g : Group) (e : TermTree) → at.mode ≡ C → (t : TypeTree) → HasType (setting_at o) [] at.vars (letrec g e) t → IsPort o.program.datas t → (result : Bool) → Ported o (spot at.mode result (with_more (declared g) at.vars)) e
  ported_let at g e c t h port result = record { type = t; has = (let_typed g e t h).body; port = port }

  ported_side : (at : Spot) (b : TypeTree × TermTree) (vars : List TypeTree) (result : Bool) → at.mode ≡ C → SideTyped (setting_at o) vars b → IsNamed o.program.datas at.mode b.0 → Ported o (spot at.mode result vars) b.1
  ported_side at b vars result c side named =
      let port : IsPort o.program.datas b.0 = subst (λ m. IsNamed o.program.datas m b.0) c named in
      record { type = side.type; has = side.has; port = ground.named (setting_at o) C b.0 side.type side.kind ground.sound side.kinded side.same port }

  ported_below : {at at' : Spot} {e x : TermTree} {p : List ℕ} → Below o at e p at' x → (at.mode ≡ C → Ported o at e) → at'.mode ≡ C → Ported o at' x
  ported_below {at} (right_side {g = g} {e = e} {i = i} {b = b} l h n) from c =
      let whole = from c in ported_side at b (with_more (declared g) at.vars) _ c ((let_typed g e whole.type whole.has).side i b h) n
  ported_below {at} (let_body {g = g} {e = e} l) from c = let whole = from c in ported_let at g e c whole.type whole.has whole.port _
  ported_below (constant_body k) from c = absurd cc
  ported_below {at} (scrutinee {alts = alts} d n) from c = absurd (scrutinee_no_circuit o.program.datas at.mode alts c)
  ported_below (branch v known n b p) from c = absurd cc
  ported_below (of_constructor c i args k is n h) from m = absurd cc
  ported_below (of_words p i args k w l n h) from m = absurd cc
  ported_below (of_element p i args k w n h) from m = absurd cc
  ported_below (of_vector k h) from m = absurd cc
  ported_below {at} (demanded d) from m = absurd (head_no_circuit at.mode m)
  ported_below (begins p i j args m b t r h) from c = absurd cc

  ported_active : {at at' : Spot} {e x : TermTree} {p : List ℕ} → IsActive o at e p at' x → (at.mode ≡ C → Ported o at e) → at'.mode ≡ C → Ported o at' x
  ported_active at_it from c = from c
  ported_active (below b r) from c = ported_active r (ported_below b from) c

  circuit_sort : (sort : Sort) → mode_of sort ≡ C → sort ≡ Circuit
  circuit_sort Value q = absurd cc
  circuit_sort Circuit q = refl

  inner_ported : (it : MadeOf) (body : TermTree) (h : IsNormalBody o it body) → IsTermType (setting_at o) [] it.ty → mode_of it.sort ≡ C → Ported o (spot (mode_of it.sort) true h.vars) h.inner
  inner_ported it body h closed c =
      let port : IsPort o.program.datas h.result = subst (λ m. IsNamed o.program.datas m h.result) c h.result_named in
      let typed = under_typed h.under h.typed.type h.typed.has h.typed.same h.params h.result h.gives (port_asks_none port.1) in
      let kind = result_kind (setting_at o) h.params h.result (subst (IsTermType (setting_at o) []) h.gives closed) in
      record { type = typed.type; has = typed.has; port = ground.named (setting_at o) C h.result typed.type kind.kind ground.sound kind.has typed.same port }

  pub place_ported : (it : MadeOf) (body x : TermTree) (path : List ℕ) (at : Spot) → IsTermType (setting_at o) [] it.ty → IsNormalBody o it body → IsPlaceOf o it body path at x → at.mode ≡ C → Ported o at x
  place_ported it body x path at closed h r c =
      let same = one_under h.under r.under in
      ported_active r.active
      (λ m. subst (λ vs. Ported o (spot (mode_of it.sort) true vs) r.term) same.1 (subst (Ported o (spot (mode_of it.sort) true h.vars)) same.2 (inner_ported it body h closed m))) c

  -- a signal's payload is representable where the signal is a port up to naturals
  payload_held : (d a u : TypeTree) (k : Kind) → HasKind (setting_at o) [] u k → SameTypes (signal d a) u → IsPort o.program.datas u → Representable o.program.datas a
  payload_held d a u k kind same port =
      let at = as_signal same in
      let leaves : Leaves o.program.datas (signal at.0 at.1) port.0 = subst (λ t. Leaves o.program.datas t port.0) at.2 port.1 in
      let kinded : HasKind (setting_at o) [] at.1 Val = payload_kind (setting_at o) at.0 at.1 k (subst (λ t. HasKind (setting_at o) [] t k) at.2 kind) in
      representable_same (setting_at o) ground.sound ground.keep (payload_of leaves) (record { kind = Val; has = kinded; same = same_turned at.4 })

  held_by : (vars : List TypeTree) (e : TermTree) (d a u : TypeTree) → AreTermTypes (setting_at o) [] vars → HasType (setting_at o) [] vars e u → SameTypes (signal d a) u → IsPort o.program.datas u → Representable o.program.datas a
  held_by vars e d a u typed has same port =
      let kind = type_kinded has ground.sound typed in payload_held d a u kind.kind kind.has same port

  register_held : (vars : List TypeTree) (d a : TypeTree) (c x : TermTree) (u : TypeTree) → AreTermTypes (setting_at o) [] vars → HasType (setting_at o) [] vars (applied (prim Register) (types_then (d ∷ a ∷ []) (c ∷ x ∷ []))) u → IsPort o.program.datas u → Representable o.program.datas a
  unfolding sub
  register_held vars d a c x u typed has port =
      let all = ground.prims (setting_at o) [] vars Register (Dom ∷ Val ∷ []) (ty_var 0 ∷ signal (ty_var 1) (ty_var 0) ∷ []) (signal (ty_var 1) (ty_var 0)) (d ∷ a ∷ []) (c ∷ x ∷ []) u ground.sound typed refl refl refl has in
      let gives : SameTypes (signal d a) u = all.gives in
      held_by vars (applied (prim Register) (types_then (d ∷ a ∷ []) (c ∷ x ∷ []))) d a u typed has gives port

  synchronizer_held : (vars : List TypeTree) (d e a : TypeTree) (x : TermTree) (u : TypeTree) → AreTermTypes (setting_at o) [] vars → HasType (setting_at o) [] vars (applied (prim UnsafeSynchronizer) (types_then (d ∷ e ∷ a ∷ []) (x ∷ []))) u → IsPort o.program.datas u → Representable o.program.datas a
  unfolding sub
  synchronizer_held vars d e a x u typed has port =
      let all = ground.prims (setting_at o) [] vars UnsafeSynchronizer (Dom ∷ Dom ∷ Val ∷ []) (signal (ty_var 2) (ty_var 0) ∷ []) (signal (ty_var 1) (ty_var 0)) (d ∷ e ∷ a ∷ []) (x ∷ []) u ground.sound typed refl refl refl has in
      let gives : SameTypes (signal e a) u = all.gives in
      held_by vars (applied (prim UnsafeSynchronizer) (types_then (d ∷ e ∷ a ∷ []) (x ∷ []))) e a u typed has gives port

  ram_held : (vars : List TypeTree) (d n k a : TypeTree) (c x y : TermTree) (u : TypeTree) → AreTermTypes (setting_at o) [] vars → HasType (setting_at o) [] vars (applied (prim BlockRam) (types_then (d ∷ n ∷ k ∷ a ∷ []) (c ∷ x ∷ y ∷ []))) u → IsPort o.program.datas u → Representable o.program.datas a
  unfolding sub
  ram_held vars d n k a c x y u typed has port =
      let all = ground.prims (setting_at o) [] vars BlockRam (Dom ∷ Nat ∷ Nat ∷ Val ∷ []) (vector (nat_sum (ty_var 2) (nat_lit 1)) (ty_var 0) ∷ signal (ty_var 3) (scalar U (ty_var 1)) ∷ signal (ty_var 3) (maybe (pair (scalar U (ty_var 1)) (ty_var 0))) ∷ []) (signal (ty_var 3) (ty_var 0))
      (d ∷ n ∷ k ∷ a ∷ []) (c ∷ x ∷ y ∷ []) u ground.sound typed refl refl refl has in
      let gives : SameTypes (signal d a) u = all.gives in
      held_by vars (applied (prim BlockRam) (types_then (d ∷ n ∷ k ∷ a ∷ []) (c ∷ x ∷ y ∷ []))) d a u typed has gives port

  on_words_none : (p : Prim) (j : ℕ) → IsOnWords p ⊎ TakesElement p → HasPayload p j → ⊥
  on_words_none Register j (inl w) h = w
  on_words_none Register j (inr w) h = w
  on_words_none BlockRam j (inl w) h = w
  on_words_none BlockRam j (inr w) h = w
  on_words_none UnsafeSynchronizer j (inl w) h = w
  on_words_none UnsafeSynchronizer j (inr w) h = w
  on_words_none _ j w h = h

  lifted_none : (p : Prim) (args : List Arg) (j : ℕ) → LiftedPrim p args → HasPayload p j → ⊥
  lifted_none p args j (on_made d s t is are) h = subst (λ r. HasPayload r j) is h
  lifted_none p args j (on_lifted d s t is are l) h = subst (λ r. HasPayload r j) is h

  -- a payload that is a type argument there
  circuit_held : (at : Spot) (p : Prim) (args : List Arg) (j : ℕ) (t : TypeTree) → CircuitPrim o.program.datas p args → HasPayload p j → slice_get args j ≡ Some (OfType t) → AreTermTypes (setting_at o) [] at.vars → Ported o at (applied (prim p) args)
      → Representable o.program.datas t
  circuit_held at p args j t (as_register {c = c} d a x is are k) h get typed ported =
      let place : j ≡ 1 = subst (λ r. HasPayload r j) is h in
      let there : slice_get args 1 ≡ Some (OfType t) = subst (λ n. slice_get args n ≡ Some (OfType t)) place get in
      let known : slice_get (OfType d ∷ OfType a ∷ OfTerm c ∷ OfTerm (var x) ∷ []) 1 ≡ Some (OfType t) = subst (λ xs. slice_get xs 1 ≡ Some (OfType t)) are there in
      let same : a ≡ t = cc in
      let has = subst (λ r. HasType (setting_at o) [] at.vars (applied (prim r) (OfType d ∷ OfType a ∷ OfTerm c ∷ OfTerm (var x) ∷ [])) ported.type) is (subst (λ xs. HasType (setting_at o) [] at.vars (applied (prim p) xs) ported.type) are ported.has) in
      subst (Representable o.program.datas) same (register_held at.vars d a c (var x) ported.type typed has ported.port)
  circuit_held at p args j t (as_ram {c = c} d n w a x y is are k f) h get typed ported =
      let place : j ≡ 3 = subst (λ r. HasPayload r j) is h in
      let there : slice_get args 3 ≡ Some (OfType t) = subst (λ n. slice_get args n ≡ Some (OfType t)) place get in
      let known : slice_get (OfType d ∷ OfType n ∷ OfType w ∷ OfType a ∷ OfTerm c ∷ OfTerm (var x) ∷ OfTerm (var y) ∷ []) 3 ≡ Some (OfType t) = subst (λ xs. slice_get xs 3 ≡ Some (OfType t)) are there in
      let same : a ≡ t = cc in
      let has = subst (λ r. HasType (setting_at o) [] at.vars (applied (prim r) (OfType d ∷ OfType n ∷ OfType w ∷ OfType a ∷ OfTerm c ∷ OfTerm (var x) ∷ OfTerm (var y) ∷ [])) ported.type) is
      (subst (λ xs. HasType (setting_at o) [] at.vars (applied (prim p) xs) ported.type) are ported.has) in
      subst (Representable o.program.datas) same (ram_held at.vars d n w a c (var x) (var y) ported.type typed has ported.port)
  circuit_held at p args j t (as_synchronizer d e a x is are) h get typed ported =
      let place : j ≡ 2 = subst (λ r. HasPayload r j) is h in
      let there : slice_get args 2 ≡ Some (OfType t) = subst (λ n. slice_get args n ≡ Some (OfType t)) place get in
      let known : slice_get (OfType d ∷ OfType e ∷ OfType a ∷ OfTerm (var x) ∷ []) 2 ≡ Some (OfType t) = subst (λ xs. slice_get xs 2 ≡ Some (OfType t)) are there in
      let same : a ≡ t = cc in
      let has = subst (λ r. HasType (setting_at o) [] at.vars (applied (prim r) (OfType d ∷ OfType e ∷ OfType a ∷ OfTerm (var x) ∷ [])) ported.type) is (subst (λ xs. HasType (setting_at o) [] at.vars (applied (prim p) xs) ported.type) are ported.has) in
      subst (Representable o.program.datas) same (synchronizer_held at.vars d e a (var x) ported.type typed has ported.port)
  circuit_held at p args j t (as_pure d a is are k) h get typed ported = absurd (subst (λ r. HasPayload r j) is h)
  circuit_held at p args j t (as_lifted l) h get typed ported = absurd (lifted_none p args j l h)

  prim_held : (at : Spot) (p : Prim) (args : List Arg) (j : ℕ) (t : TypeTree) → PrimStands o at p args → HasPayload p j → slice_get args j ≡ Some (OfType t) → AreTermTypes (setting_at o) [] at.vars
      → (at.mode ≡ C → Ported o at (applied (prim p) args)) → Representable o.program.datas t
  prim_held at p args j t (in_values v s) h get typed ported = absurd (on_words_none p j s.sort h)
  prim_held at p args j t (in_circuits v c) h get typed ported = circuit_held at p args j t c h get typed (ported v)
  prim_held at p args j t (in_lifted v l) h get typed ported = absurd (lifted_none p args j l h)

  held_at : {at : Spot} {e : TermTree} {b : Block} (t : TypeTree) → BlocksAt o at e b → b ≡ payload t → Stands o at e → AreTermTypes (setting_at o) [] at.vars → (at.mode ≡ C → Ported o at e) → ⊥
  held_at t (by_recursion i more through w) q s typed ported = cc
  held_at {at} t (by_payload p args j {t = u} h get n) q s typed ported = n (prim_held at p args j u (prim_stands p args s refl) h get typed ported)
  held_at t (by_limit h first) q s typed ported = cc

  pub place_scope : (it : MadeOf) (body x : TermTree) (path : List ℕ) (at : Spot) → HasTypeUpTo (setting_at o) [] [] body it.ty → IsPlaceOf o it body path at x → AreTermTypes (setting_at o) [] at.vars
  place_scope it body x path at typed r =
      (part_typed (place_around o it body x path at ground.sound typed r) ground.sound tt typed.type typed.has).0

  pub no_payload : (it : MadeOf) (body : TermTree) (path : List ℕ) (t : TypeTree) {b : Block} → IsTermType (setting_at o) [] it.ty → IsNormalBody o it body → IsBlocked o it body path b → b ≡ payload t → ⊥
  no_payload it body path t closed h (at_place {at = at} {e = e} place blocks) q =
      held_at t blocks q (place_stands o it body e path at h place) (place_scope it body e path at h.typed place) (place_ported it body e path at closed h place)
  no_payload it body path t closed h (at_lambda under less part passes) q = cc
