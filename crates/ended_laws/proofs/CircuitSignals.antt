-- Where circuits are built, primitives on signals at rest are on variables, constants and made definitions.
use Rattle.std.proofs.Common.{◌≡◌, ◌∙◌, inl, inr, refl, sym, ap, subst, ℕ, suc, zero, List, [], ◌∷◌, ◌++◌, length, arith, Some}
use Rattle.std.specs.List.{slice_get}
use Rattle.chw_types.specs.BuiltIn.{built_in}
use Rattle.chw_types.specs.declared.declarations.Data.{Data}
use Rattle.chw_types.specs.declared.kind.Kind.TheVariants.{Nat, Dom, Val}
use Rattle.chw_types.specs.declared.kind.Scalar.TheVariants.{U}
use Rattle.chw_types.specs.Kinds.{KindsOf, kind_and, no_kinds, kind_data, kind_nat, kind_scalar, kind_signal, kind_sum, kind_var, kind_vector}
use Rattle.chw_types.specs.SameTypes.{SameTypes}
use Rattle.chw_types.specs.TypeMoves.{sub, rename, up}
use Rattle.chw_types.specs.TypeTree.{TypeTree, ty_var, nat_lit, nat_sum, scalar, vector, signal}
use Rattle.chw_types.specs.TypeView.{trees_of}
use Rattle.type_laws.proofs.SameForms.{as_signal}
use Rattle.type_ports.specs.Ports.{IsPort}
use Rattle.type_ports.specs.Representable.{Representable, representable_scalar, representable_vector, representable_data, represent_and, none_to_represent}
use Rattle.chw_prims.specs.declared.prim.Primitive.{Primitive as Prim}
use Rattle.chw_prims.specs.declared.prim.Primitive.TheVariants.{Fmap, Ap, Pure, Register, BlockRam, UnsafeSynchronizer}
use Rattle.chw_prims.specs.Schemas.{schema_type, maybe, pair}
use Rattle.chw_layout.specs.Refusals.{RepresentableIsMeasured}
use Rattle.layout_laws.specs.SameLayout.{SameKeepsMeasure}
use Rattle.chw_terms.specs.declared.scene.Mode.{Mode}
use Rattle.chw_terms.specs.declared.scene.Mode.TheVariants.{C}
use Rattle.chw_terms.specs.declared.term.Arg.{Arg}
use Rattle.chw_terms.specs.declared.term.Arg.TheVariants.{OfTerm}
use Rattle.chw_terms.specs.TermSize.{tree_size}
use Rattle.chw_terms.specs.TermTree.{TermTree, var, prim}
use Rattle.chw_terms.specs.TermView.{applied}
use Rattle.chw_typing.specs.Given.{types_then}
use Rattle.chw_typing.specs.Programs.{IsSound}
use Rattle.chw_typing.specs.Scopes.{Setting, HasKind}
use Rattle.chw_typing.specs.Typing.{HasTypeUpTo}
use Rattle.chw_typing.specs.TypedSpines.{AtArguments, at_none}
use Rattle.chw_typing.proofs.FieldKinds.{closed_put}
use Rattle.chw_typing.proofs.Patterns.{are_of_terms}
use Rattle.normal_forms.specs.Circuits.{content_type, IsLiftedCall, IsCircuitSide, of_register, of_block_ram, of_synchronizer, of_pure, of_lifted}
use Rattle.rewriting.specs.Named.{IsNamed}
use Rattle.rewriting.specs.Operands.{IsSignal, of_prim}
use Rattle.rewriting.specs.Origins.{Origins, setting_at}
use Rattle.rewriting.specs.SceneLaws.{NamedIsDecided, NamedIsTermKind, SameKeepsNamed}
use Rattle.rewriting.specs.Shapes.{IsOfCircuit, fmap_of, ap_of}
use Rattle.rewriting.specs.Spots.{Spot, asked_for}
use Rattle.rule_types.proofs.Applied.{IsDomain, fmap_parts, ap_parts}
use Rattle.unroll_laws.proofs.Sized.{first_kind, later_kinds}
use Rattle.rest_places.specs.Chains.{IsChain, MadeAreNamed, TakesAsMany}
use Rattle.rest_places.specs.Constants.{NoUnrolled}
use Rattle.rest_places.specs.Rest.{IsRestPlace}
use Rattle.rest_places.specs.Spines.{PrimGiven}
use Rattle.rest_places.proofs.Chains.{fmap_chain, ap_chain}
use Rattle.rest_places.proofs.CircuitHeads.{OnSignals, is_fmap, is_ap, is_pure, is_register, is_block_ram, is_synchronizer, domain_of, OfOne, one, OfTwo, two, OfThree, three, OfFour, four, of_one, of_two, of_three, of_four, heads_below}
use Rattle.rest_places.proofs.Lifted.{lifted_is_made}
use Rattle.rest_places.proofs.Operands.{operands_are_variables}
use Rattle.rest_places.proofs.Ports.{payload_of, signal_port}
use Rattle.ended_laws.proofs.PrimSides.{one_name}
use Rattle.ended_laws.proofs.CircuitContents.{payload_stands, some_width, content_at_rest, content_stands}

-- what is written to a block RAM: maybe an address, with a word
abbrev write_type : TypeTree → TypeTree → TypeTree
write_type k a = maybe (pair (scalar U k) a)

-- a built-in data type
built : (s : Setting) → IsSound s → (d : ℕ) (it : Data) → slice_get built_in d ≡ Some it → slice_get s.datas d ≡ Some it
built s h d it is = ap (λ datas. slice_get datas d) h.begins.1 ∙ behind built_in h.begins.0 d is
  where
    behind : (xs ys : List Data) (i : ℕ) → slice_get xs i ≡ Some it → slice_get (xs ++ ys) i ≡ Some it
    behind [] ys i h = absurd cc
    behind (x ∷ xs) ys zero h = h
    behind (x ∷ xs) ys (suc i) h = behind xs ys i h

write_value : (s : Setting) → IsSound s → {k a : TypeTree} → Representable s.datas a → Representable s.datas (write_type k a)
unfolding sub rename up
write_value s h r = representable_data (built s h 1 _ refl) refl (represent_and (representable_data (built s h 2 _ refl) refl (represent_and representable_scalar (represent_and r none_to_represent))) none_to_represent)

-- the kinds of what a block RAM is given
write_kind : (s : Setting) → IsSound s → {k a : TypeTree} → HasKind s [] k Nat → HasKind s [] a Val → HasKind s [] (write_type k a) Val
write_kind s h x y = kind_data (built s h 1 _ refl) (kind_and (kind_data (built s h 2 _ refl) (kind_and (kind_scalar x) (kind_and y no_kinds))) no_kinds)

content_kind : (s : Setting) (d n k a : TypeTree) → KindsOf s.datas s.domains [] (trees_of (d ∷ n ∷ k ∷ a ∷ [])) (Dom ∷ Nat ∷ Nat ∷ Val ∷ []) → HasKind s [] (content_type n a) Val
unfolding sub
content_kind s d n k a kinds =
    closed_put s (Dom ∷ Nat ∷ Nat ∷ Val ∷ []) (trees_of (d ∷ n ∷ k ∷ a ∷ [])) (vector (nat_sum (ty_var 2) (nat_lit 1)) (ty_var 0)) Val kinds
    (kind_vector (kind_sum (kind_var refl) kind_nat (omega arith)) (kind_var refl) tt)

pub in_circuit : {m : Mode} → m ≡ C → IsOfCircuit m
in_circuit k = subst IsOfCircuit (sym k) tt

given_type : {s : Setting} {vars : List TypeTree} {u t : TypeTree} → AtArguments s [] vars u [] t → u ≡ t
given_type at_none = refl

-- a lifted made definition
of_made_chain : (o : Origins) {e : TermTree} {n : ℕ} → (m : ℕ) × IsLiftedCall m e n × TakesAsMany o m n → IsCircuitSide o e
of_made_chain o {e} (m, l, (it, is, sort, many)) = of_lifted m is sort (subst (IsLiftedCall m e) many l)

module _ (decided : NamedIsDecided) (kind_named : NamedIsTermKind) (kept : SameKeepsNamed) (unrolled : NoUnrolled) (measured : RepresentableIsMeasured) (same_measure : SameKeepsMeasure) (o : Origins) (named : MadeAreNamed o) where
  -- a signal of which a primitive makes another is a variable
  signal_name : (at : Spot) (p : Prim) (args : List Arg) (i : ℕ) (s : TermTree) (d a t : TypeTree) → at.mode ≡ C → length args ≡ asked_for (schema_type p) → IsSignal p i → slice_get args i ≡ Some (OfTerm s) → HasKind (setting_at o) [] d Dom → HasKind (setting_at o) [] a Val → Representable o.program.datas a → HasTypeUpTo (setting_at o) [] at.vars s (signal d a)
      → IsRestPlace o at (applied (prim p) args) t → (x : ℕ) × (s ≡ var x)
  signal_name at p args i s d a t k many sig is in_domain kind r given rest =
      let place : IsDomain (setting_at o) d = domain_of (setting_at o) (are_of_terms (setting_at o) rest.place.sound) in_domain refl in
      let port = subst (λ d. IsPort o.program.datas (signal d a)) (sym place.1) (signal_port place.0 r) in
      let own = kept (setting_at o) C (signal d a) given.type _ rest.place.sound (kind_signal in_domain kind) given.same port in
      one_name s
      (operands_are_variables o at (applied (prim p) args) [] t _ s given.type rest
      (of_prim p args i many (inr (inr sig)) is) given.has (subst (λ m. IsNamed o.program.datas m given.type) (sym k) own))

  -- what a primitive on signals is given
  abbrev Given : Spot → Prim → List TypeTree → List TermTree → TypeTree → Type 0
  Given at p types es t = (at.mode ≡ C) × PrimGiven (setting_at o) at.vars p types es [] t × IsRestPlace o at (applied (prim p) (types_then types es)) t × IsPort o.program.datas t

  pure_side : (at : Spot) {types : List TypeTree} {es : List TermTree} (t : TypeTree) → OfTwo types → OfOne es → Given at Pure types es t → IsCircuitSide o (applied (prim Pure) (types_then types es))
  unfolding sub
  pure_side at t (two {a = d} {b = a}) (one {a = c}) (k, given, rest, port) =
      let e = applied (prim Pure) (types_then (d ∷ a ∷ []) (c ∷ [])) in
      let args = types_then (d ∷ a ∷ []) (c ∷ []) in
      let gives = subst (SameTypes (signal d a)) (given_type given.leads) given.saturated.gives in
      let value = payload_stands kept o at e d a t rest port gives in
      let kind = first_kind (later_kinds given.saturated.have) in
      let own = given.saturated.args_given.0 in
      of_pure (content_stands decided kind_named kept unrolled o at a c own kind value
      (content_at_rest decided kind_named kept unrolled o at Pure args 2 1 a a t c k (refl, refl) refl value refl own rest))

  register_side : (at : Spot) {types : List TypeTree} {es : List TermTree} (t : TypeTree) → OfTwo types → OfTwo es → Given at Register types es t → IsCircuitSide o (applied (prim Register) (types_then types es))
  unfolding sub
  register_side at t (two {a = d} {b = a}) (two {a = c} {b = s}) (k, given, rest, port) =
      let e = applied (prim Register) (types_then (d ∷ a ∷ []) (c ∷ s ∷ [])) in
      let args = types_then (d ∷ a ∷ []) (c ∷ s ∷ []) in
      let gives = subst (SameTypes (signal d a)) (given_type given.leads) given.saturated.gives in
      let value = payload_stands kept o at e d a t rest port gives in
      let kind = first_kind (later_kinds given.saturated.have) in
      let own = given.saturated.args_given.0 in
      let there = content_at_rest decided kind_named kept unrolled o at Register args 2 1 a a t c k (refl, refl) refl value refl own rest in
      let name = signal_name at Register args 3 s d a t k refl refl refl (first_kind given.saturated.have) kind value given.saturated.args_given.1.0 rest in
      subst (λ s. IsCircuitSide o (applied (prim Register) (types_then (d ∷ a ∷ []) (c ∷ s ∷ [])))) (sym name.1)
      (of_register (content_stands decided kind_named kept unrolled o at a c own kind value there))

  block_ram_side : (at : Spot) {types : List TypeTree} {es : List TermTree} (t : TypeTree) → OfFour types → OfThree es → Given at BlockRam types es t → IsCircuitSide o (applied (prim BlockRam) (types_then types es))
  unfolding sub
  block_ram_side at t (four {a = d} {b = n} {c = l} {d = a}) (three {a = c} {b = r} {c = w}) (k, given, rest, port) =
      let s = setting_at o in
      let e = applied (prim BlockRam) (types_then (d ∷ n ∷ l ∷ a ∷ []) (c ∷ r ∷ w ∷ [])) in
      let args = types_then (d ∷ n ∷ l ∷ a ∷ []) (c ∷ r ∷ w ∷ []) in
      let gives = subst (SameTypes (signal d a)) (given_type given.leads) given.saturated.gives in
      let value = payload_stands kept o at e d a t rest port gives in
      let in_domain = first_kind given.saturated.have in
      let word = first_kind (later_kinds (later_kinds given.saturated.have)) in
      let kind = first_kind (later_kinds (later_kinds (later_kinds given.saturated.have))) in
      let own = given.saturated.args_given.0 in
      let held = content_kind s d n l a given.saturated.have in
      let there = content_at_rest decided kind_named kept unrolled o at BlockRam args 4 3 a (content_type n a) t c k (refl, refl) refl value refl own rest in
      let reads = signal_name at BlockRam args 5 r d (scalar U l) t k refl (inl refl) refl in_domain (kind_scalar word) representable_scalar given.saturated.args_given.1.0 rest in
      let writes = signal_name at BlockRam args 6 w d (write_type l a) t k refl (inr refl) refl in_domain (write_kind s rest.place.sound word kind) (write_value s rest.place.sound value) given.saturated.args_given.1.1.0 rest in
      let width = some_width measured same_measure kept o _ c (content_type n a) own.type there (representable_vector value) held own.same in
      subst (λ r. IsCircuitSide o (applied (prim BlockRam) (types_then (d ∷ n ∷ l ∷ a ∷ []) (c ∷ r ∷ w ∷ [])))) (sym reads.1)
      (subst (λ w. IsCircuitSide o (applied (prim BlockRam) (types_then (d ∷ n ∷ l ∷ a ∷ []) (c ∷ var reads.0 ∷ w ∷ [])))) (sym writes.1)
      (of_block_ram (content_stands decided kind_named kept unrolled o at (content_type n a) c own held (representable_vector value) there) width.1))

  synchronizer_side : (at : Spot) {types : List TypeTree} {es : List TermTree} (t : TypeTree) → OfThree types → OfOne es → Given at UnsafeSynchronizer types es t → IsCircuitSide o (applied (prim UnsafeSynchronizer) (types_then types es))
  unfolding sub
  synchronizer_side at t (three {a = d} {b = f} {c = a}) (one {a = s}) (k, given, rest, port) =
      let e = applied (prim UnsafeSynchronizer) (types_then (d ∷ f ∷ a ∷ []) (s ∷ [])) in
      let gives = subst (SameTypes (signal f a)) (given_type given.leads) given.saturated.gives in
      let value = payload_stands kept o at e f a t rest port gives in
      let kind = first_kind (later_kinds (later_kinds given.saturated.have)) in
      let name = signal_name at UnsafeSynchronizer (types_then (d ∷ f ∷ a ∷ []) (s ∷ [])) 3 s d a t k refl refl refl (first_kind given.saturated.have) kind value given.saturated.args_given.0 rest in
      subst (λ s. IsCircuitSide o (applied (prim UnsafeSynchronizer) (types_then (d ∷ f ∷ a ∷ []) (s ∷ [])))) (sym name.1) of_synchronizer

  -- a chain that gives a port is of a made definition
  chain_side : (at : Spot) (e : TermTree) (d b t : TypeTree) (n : ℕ) → at.mode ≡ C → IsRestPlace o at e t → IsPort o.program.datas t → SameTypes (signal d b) t → IsChain e n → IsCircuitSide o e
  chain_side at e d b t n k p port same chain =
      let parts = as_signal same in
      let there = subst (IsRestPlace o at e) parts.2 p in
      let own = subst (IsPort o.program.datas) parts.2 port in
      of_made_chain o (lifted_is_made decided kept kind_named o named at e parts.0 parts.1 n (in_circuit k) there (payload_of own.1) chain)

  fmap_side : (at : Spot) {types : List TypeTree} {es : List TermTree} (t : TypeTree) → OfThree types → OfTwo es → Given at Fmap types es t → IsCircuitSide o (applied (prim Fmap) (types_then types es))
  fmap_side at t (three {a = d} {b = a} {c = b}) (two {a = f} {b = s}) (k, given, rest, port) =
      let e = fmap_of d a b f s in
      let parts = fmap_parts rest.place.sound rest.place.vars rest.has in
      let n = tree_size e in
      chain_side at e d b t 1 k rest port parts.gives (fmap_chain decided kept o n (heads_below decided kept kind_named unrolled o n) at d a b f s t (in_circuit k) (omega arith) rest)

  ap_side : (at : Spot) {types : List TypeTree} {es : List TermTree} (t : TypeTree) → OfThree types → OfTwo es → Given at Ap types es t → IsCircuitSide o (applied (prim Ap) (types_then types es))
  ap_side at t (three {a = d} {b = a} {c = b}) (two {a = u} {b = s}) (k, given, rest, port) =
      let e = ap_of d a b u s in
      let parts = ap_parts rest.place.sound rest.place.vars rest.has in
      let n = tree_size e in
      let chain = ap_chain decided kept o n (heads_below decided kept kind_named unrolled o n) at d a b u s t (in_circuit k) (omega arith) rest in
      chain_side at e d b t chain.0 k rest port parts.gives chain.1

  pub signals_side : (at : Spot) {p : Prim} (types : List TypeTree) (es : List TermTree) (t : TypeTree) → OnSignals p → Given at p types es t → IsCircuitSide o (applied (prim p) (types_then types es))
  signals_side at types es t is_fmap g = fmap_side at t (of_three types g.1.on_types) (of_two es g.1.on_terms) g
  signals_side at types es t is_ap g = ap_side at t (of_three types g.1.on_types) (of_two es g.1.on_terms) g
  signals_side at types es t is_pure g = pure_side at t (of_two types g.1.on_types) (of_one es g.1.on_terms) g
  signals_side at types es t is_register g = register_side at t (of_two types g.1.on_types) (of_two es g.1.on_terms) g
  signals_side at types es t is_block_ram g = block_ram_side at t (of_four types g.1.on_types) (of_three es g.1.on_terms) g
  signals_side at types es t is_synchronizer g = synchronizer_side at t (of_three types g.1.on_types) (of_one es g.1.on_terms) g
