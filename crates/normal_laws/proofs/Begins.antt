-- What a register, a block RAM and a constant signal begin with has a width.
use Rattle.std.proofs.Common.{◌≡◌, ℕ, List, [], ◌∷◌, Some, refl, sym, ap, subst, arith}
use Rattle.std.specs.List.{slice_get}
use Rattle.chw_types.specs.declared.declarations.Data.{Data}
use Rattle.chw_types.specs.declared.kind.Kind.{Kind}
use Rattle.chw_types.specs.declared.kind.Kind.TheVariants.{Nat, Dom, Val}
use Rattle.chw_types.specs.declared.kind.Scalar.TheVariants.{U}
use Rattle.type_ports.specs.declared.ports.Leaf.{Leaf}
use Rattle.chw_types.specs.Kinds.{degree, KindOf, kind_var, kind_nat, kind_sum, kind_product, kind_domain, kind_scalar, kind_vector, kind_data, kind_fun, kind_signal, kind_for_all, KindsOf, kind_and, no_kinds}
use Rattle.type_ports.specs.Ports.{leaf_of, Leaves, one_leaf}
use Rattle.type_ports.specs.Representable.{Representable}
use Rattle.chw_types.specs.SameTypes.{SameTypes}
use Rattle.chw_types.specs.TypeMoves.{sub}
use Rattle.chw_types.specs.TypeTree.{TypeTree, ty_var, nat_lit, nat_sum, scalar, vector, signal, no_types, type_and}
use Rattle.chw_types.proofs.SameLaws.{same_turned, same_through}
use Rattle.type_laws.proofs.SameForms.{as_signal}
use Rattle.chw_prims.specs.declared.prim.Primitive.{Primitive as Prim}
use Rattle.chw_prims.specs.declared.prim.Primitive.TheVariants.{Pure, Register, BlockRam}
use Rattle.chw_prims.specs.Schemas.{maybe, pair}
use Rattle.chw_terms.specs.declared.term.Arg.{Arg}
use Rattle.chw_terms.specs.declared.term.Arg.TheVariants.{OfTerm, OfType}
use Rattle.chw_terms.specs.TermTree.{TermTree, var, prim}
use Rattle.chw_terms.specs.TermView.{applied}
use Rattle.chw_typing.specs.Scopes.{HasKind, AreTermTypes}
use Rattle.chw_typing.specs.Typing.{HasType, HasTypeUpTo}
use Rattle.chw_typing.proofs.Kinded.{type_kinded}
use Rattle.chw_typing.proofs.OneType.{one_type}
use Rattle.chw_typing.proofs.SameScopes.{are_same_self}
use Rattle.chw_typing.specs.Given.{types_then}
use Rattle.chw_typing.specs.SpineLaws.{PrimAtArguments}
use Rattle.rewriting.specs.Origins.{Origins, setting_at}
use Rattle.rewriting.specs.Spots.{Spot, BeginsWith}
use Rattle.normal_forms.specs.Circuits.{content_type}
use Rattle.normal_laws.proofs.Alike.{leaf_like, leaves_like}
use Rattle.normal_laws.proofs.Built.{Held}
use Rattle.normal_laws.proofs.Declared.{contains_at}
use Rattle.normal_laws.proofs.Fits.{Fitting, HasSomeWidth, Fits, fits_given, width_back}
use Rattle.normal_laws.proofs.Forms.{LiftedPrim, on_made, on_lifted, CircuitPrim, as_register, as_ram, as_synchronizer, as_pure, as_lifted}
use Rattle.normal_laws.proofs.Payloads.{Ported}

-- the one leaf of a signal
signal_leaf : {datas : List Data} {d t : TypeTree} {ls : List Leaf} → Leaves datas (signal d t) ls → (l : Leaf) × (ls ≡ l ∷ []) × (l.payload ≡ t)
signal_leaf (one_leaf {dom = dom} {t = t} r) = (leaf_of dom t, refl, refl)

second_kind : {datas : List Data} {domains : ℕ} {d a : TypeTree} {i j : Kind} → KindsOf datas domains [] (type_and d (type_and a no_types)) (i ∷ j ∷ []) → KindOf datas domains [] a j
second_kind (kind_and x (kind_and y no_kinds)) = y

-- a closed natural has degree 0
closed_degree : {datas : List Data} {domains : ℕ} {scope : List Kind} {t : TypeTree} {k : Kind} → KindOf datas domains scope t k → scope ≡ [] → degree t ≡ 0
closed_degree (kind_var {x = x} {k = k} e) is = absurd (let none = subst (λ s. slice_get s x ≡ Some k) is e in cc)
closed_degree kind_nat is = refl
closed_degree (kind_sum d e small) is = let l = closed_degree d is in let r = closed_degree e is in omega arith
closed_degree (kind_product d e small) is = let l = closed_degree d is in let r = closed_degree e is in omega arith
closed_degree (kind_domain l) is = refl
closed_degree (kind_scalar d) is = refl
closed_degree (kind_vector d e o) is = refl
closed_degree (kind_data e ds) is = refl
closed_degree (kind_fun d e o) is = refl
closed_degree (kind_signal d e) is = refl
closed_degree (kind_for_all d o) is = refl

content_kind : {datas : List Data} {domains : ℕ} {d n k a : TypeTree} → KindsOf datas domains [] (type_and d (type_and n (type_and k (type_and a no_types)))) (Dom ∷ Nat ∷ Nat ∷ Val ∷ []) → KindOf datas domains [] (content_type n a) Val
content_kind (kind_and d (kind_and n (kind_and k (kind_and a no_kinds)))) =
    let none = closed_degree n refl in kind_vector (kind_sum n kind_nat (omega (arith, none))) a tt

module _ (o : Origins) (fitting : Fitting o) (prims : PrimAtArguments) where
  -- the payload of a signal that is a port, and whose widths hold
  payload_width : (at : Spot) (e : TermTree) (d a : TypeTree) (k : Kind) (p : Ported o at e) → AreTermTypes (setting_at o) [] at.vars → Held o at e → SameTypes (signal d a) p.type → HasKind (setting_at o) [] a k → Representable o.program.datas a → HasSomeWidth o.program.datas a
  payload_width at e d a k p typed held gives kinded r =
      let alike = one_type p.has held.has fitting.sound typed typed (are_same_self at.vars) in
      let kind = type_kinded p.has fitting.sound typed in
      let likes = leaves_like (setting_at o) fitting.sound fitting.keep p.port.1 (record { kind = kind.kind; has = kind.has; same = same_through alike (same_turned held.same) }) in
      let found = as_signal gives in
      let leaf = signal_leaf (subst (λ t. Leaves o.program.datas t p.port.0) found.2 p.port.1) in
      let other = leaf_like (setting_at o) p.port.0 likes.0 0 leaf.0 likes.2 (ap (λ ls. slice_get ls 0) leaf.1) in
      let w = held.widths.leaves likes.0 other.0 likes.1 (contains_at likes.0 0 other.0 other.1) in
      width_back o fitting a other.0.payload (record { kind = k; has = kinded; same = same_through (subst (SameTypes a) (sym leaf.2) found.4) other.2.same }) r w

  register_fits : (at : Spot) (d a : TypeTree) (c x : TermTree) → AreTermTypes (setting_at o) [] at.vars → Held o at (applied (prim Register) (types_then (d ∷ a ∷ []) (c ∷ x ∷ []))) → Ported o at (applied (prim Register) (types_then (d ∷ a ∷ []) (c ∷ x ∷ [])))
      → Representable o.program.datas a → Fits o at.vars c
  unfolding sub
  register_fits at d a c x typed held p r =
      let all = prims (setting_at o) [] at.vars Register (Dom ∷ Val ∷ []) (ty_var 0 ∷ signal (ty_var 1) (ty_var 0) ∷ []) (signal (ty_var 1) (ty_var 0)) (d ∷ a ∷ []) (c ∷ x ∷ []) p.type fitting.sound typed refl refl refl p.has in
      let gives : SameTypes (signal d a) p.type = all.gives in
      let content : HasTypeUpTo (setting_at o) [] at.vars c a = all.args_given.0 in
      let kinded : HasKind (setting_at o) [] a Val = second_kind all.have in
      fits_given o fitting at.vars c a Val kinded (payload_width at (applied (prim Register) (types_then (d ∷ a ∷ []) (c ∷ x ∷ []))) d a Val p typed held gives kinded r) content

  pure_fits : (at : Spot) (d a : TypeTree) (c : TermTree) → AreTermTypes (setting_at o) [] at.vars → Held o at (applied (prim Pure) (types_then (d ∷ a ∷ []) (c ∷ []))) → Ported o at (applied (prim Pure) (types_then (d ∷ a ∷ []) (c ∷ []))) → Representable o.program.datas a
      → Fits o at.vars c
  unfolding sub
  pure_fits at d a c typed held p r =
      let all = prims (setting_at o) [] at.vars Pure (Dom ∷ Val ∷ []) (ty_var 0 ∷ []) (signal (ty_var 1) (ty_var 0)) (d ∷ a ∷ []) (c ∷ []) p.type fitting.sound typed refl refl refl p.has in
      let gives : SameTypes (signal d a) p.type = all.gives in
      let content : HasTypeUpTo (setting_at o) [] at.vars c a = all.args_given.0 in
      let kinded : HasKind (setting_at o) [] a Val = second_kind all.have in
      fits_given o fitting at.vars c a Val kinded (payload_width at (applied (prim Pure) (types_then (d ∷ a ∷ []) (c ∷ []))) d a Val p typed held gives kinded r) content

  ram_fits : (at : Spot) (d n k a : TypeTree) (c x y : TermTree) (u : TypeTree) → AreTermTypes (setting_at o) [] at.vars → HasType (setting_at o) [] at.vars (applied (prim BlockRam) (types_then (d ∷ n ∷ k ∷ a ∷ []) (c ∷ x ∷ y ∷ []))) u → HasSomeWidth o.program.datas (content_type n a)
      → Fits o at.vars c
  unfolding sub
  ram_fits at d n k a c x y u typed has w =
      let all = prims (setting_at o) [] at.vars BlockRam (Dom ∷ Nat ∷ Nat ∷ Val ∷ []) (vector (nat_sum (ty_var 2) (nat_lit 1)) (ty_var 0) ∷ signal (ty_var 3) (scalar U (ty_var 1)) ∷ signal (ty_var 3) (maybe (pair (scalar U (ty_var 1)) (ty_var 0))) ∷ []) (signal (ty_var 3) (ty_var 0))
      (d ∷ n ∷ k ∷ a ∷ []) (c ∷ x ∷ y ∷ []) u fitting.sound typed refl refl refl has in
      let content : HasTypeUpTo (setting_at o) [] at.vars c (content_type n a) = all.args_given.0 in
      fits_given o fitting at.vars c (content_type n a) Val (content_kind all.have) w content

  -- by the primitive
  pub begun_fits : (at : Spot) (p : Prim) (args : List Arg) (i j : ℕ) (t : TypeTree) (a : TermTree) → CircuitPrim o.program.datas p args → AreTermTypes (setting_at o) [] at.vars → Held o at (applied (prim p) args) → Ported o at (applied (prim p) args) → BeginsWith p i j
      → slice_get args j ≡ Some (OfType t) → Representable o.program.datas t → slice_get args i ≡ Some (OfTerm a) → Fits o at.vars a
  begun_fits at p args i j t a (as_register {c = c} d s x is are k) typed held port b type r h =
      let more : List Arg = OfType d ∷ OfType s ∷ OfTerm c ∷ OfTerm (var x) ∷ [] in
      let places = subst (λ r. BeginsWith r i j) is b in
      let payload : slice_get more 1 ≡ Some (OfType t) = subst (λ xs. slice_get xs 1 ≡ Some (OfType t)) are (subst (λ n. slice_get args n ≡ Some (OfType t)) places.1 type) in
      let begin : slice_get more 2 ≡ Some (OfTerm a) = subst (λ xs. slice_get xs 2 ≡ Some (OfTerm a)) are (subst (λ n. slice_get args n ≡ Some (OfTerm a)) places.0 h) in
      let content : c ≡ a = cc in
      let of : t ≡ s = cc in
      let own = subst (λ q. Held o at (applied (prim q) more)) is (subst (λ xs. Held o at (applied (prim p) xs)) are held) in
      let ported = subst (λ q. Ported o at (applied (prim q) more)) is (subst (λ xs. Ported o at (applied (prim p) xs)) are port) in
      subst (Fits o at.vars) content (register_fits at d s c (var x) typed own ported (subst (Representable o.program.datas) of r))
  begun_fits at p args i j t a (as_ram {c = c} {w = w} d n k s x y is are e f) typed held port b type r h =
      let more : List Arg = OfType d ∷ OfType n ∷ OfType k ∷ OfType s ∷ OfTerm c ∷ OfTerm (var x) ∷ OfTerm (var y) ∷ [] in
      let places = subst (λ r. BeginsWith r i j) is b in
      let begin : slice_get more 4 ≡ Some (OfTerm a) = subst (λ xs. slice_get xs 4 ≡ Some (OfTerm a)) are (subst (λ n. slice_get args n ≡ Some (OfTerm a)) places.0 h) in
      let content : c ≡ a = cc in
      let own = subst (λ q. Held o at (applied (prim q) more)) is (subst (λ xs. Held o at (applied (prim p) xs)) are held) in
      subst (Fits o at.vars) content (ram_fits at d n k s c (var x) (var y) own.type typed own.has (w, f))
  begun_fits at p args i j t a (as_synchronizer d e s x is are) typed held port b type r h = absurd (subst (λ r. BeginsWith r i j) is b)
  begun_fits at p args i j t a (as_pure {c = c} d s is are k) typed held port b type r h =
      let more : List Arg = OfType d ∷ OfType s ∷ OfTerm c ∷ [] in
      let places = subst (λ r. BeginsWith r i j) is b in
      let payload : slice_get more 1 ≡ Some (OfType t) = subst (λ xs. slice_get xs 1 ≡ Some (OfType t)) are (subst (λ n. slice_get args n ≡ Some (OfType t)) places.1 type) in
      let begin : slice_get more 2 ≡ Some (OfTerm a) = subst (λ xs. slice_get xs 2 ≡ Some (OfTerm a)) are (subst (λ n. slice_get args n ≡ Some (OfTerm a)) places.0 h) in
      let content : c ≡ a = cc in
      let of : t ≡ s = cc in
      let own = subst (λ q. Held o at (applied (prim q) more)) is (subst (λ xs. Held o at (applied (prim p) xs)) are held) in
      let ported = subst (λ q. Ported o at (applied (prim q) more)) is (subst (λ xs. Ported o at (applied (prim p) xs)) are port) in
      subst (Fits o at.vars) content (pure_fits at d s c typed own ported (subst (Representable o.program.datas) of r))
  begun_fits at p args i j t a (as_lifted l) typed held port b type r h = absurd (lifted_begins l b)
    where
      lifted_begins : {p : Prim} {args : List Arg} → LiftedPrim p args → BeginsWith p i j → ⊥
      lifted_begins (on_made d s t is are) b = subst (λ r. BeginsWith r i j) is b
      lifted_begins (on_lifted d s t is are l) b = subst (λ r. BeginsWith r i j) is b
