-- Heads of circuits at rest are taken away by the rules of the place above, or they are signals.
use Rattle.std.proofs.Common.{◌≡◌, ◌∙◌, ◌⊎◌, ◌<◌, inl, inr, refl, sym, ap, subst, ℕ, suc, zero, false, List, [], ◌∷◌, ◌++◌, length, arith, Some}
use Rattle.std.specs.List.{slice_get, AllByRecursion}
use Rattle.chw_types.specs.declared.declarations.Data.{Data}
use Rattle.chw_types.specs.declared.kind.Kind.{Kind}
use Rattle.chw_types.specs.declared.kind.Kind.TheVariants.{Dom, Val, Cir}
use Rattle.chw_types.specs.Arguments.{arguments}
use Rattle.chw_types.specs.Kinds.{IsOfTerms, KindOf, kind_var, kind_nat, kind_sum, kind_product, kind_domain, kind_scalar, kind_vector, kind_data, kind_fun, kind_signal, kind_for_all}
use Rattle.chw_types.specs.SameTypes.{SameTypes}
use Rattle.chw_types.specs.TypeMoves.{sub}
use Rattle.chw_types.specs.TypeTree.{TypeTree, ty_var, vector, signal}
use Rattle.chw_types.specs.TypeView.{trees_of}
use Rattle.chw_types.proofs.KindsFound.{one_kind}
use Rattle.type_laws.proofs.OneKind.{same_kind}
use Rattle.type_laws.proofs.SameForms.{as_domain, as_signal, as_vector}
use Rattle.type_ports.specs.declared.ports.Leaf.{Leaf}
use Rattle.type_ports.specs.Ports.{Leaves, one_leaf, leaves_of_fields, IsPort}
use Rattle.type_ports.specs.Representable.{Representable}
use Rattle.chw_prims.specs.declared.prim.Primitive.{Primitive as Prim}
use Rattle.chw_prims.specs.declared.prim.Primitive.TheVariants.{Fmap, Ap, Pure, Register, BlockRam, UnsafeSynchronizer, VGet, VGetC}
use Rattle.chw_prims.specs.declared.row.Row.TheVariants.{Element, ElementAt}
use Rattle.chw_prims.specs.Schemas.{schema_type, row_of, row_type}
use Rattle.chw_terms.proofs.Spines.{applied_more}
use Rattle.chw_terms.specs.declared.scene.Mode.{Mode}
use Rattle.chw_terms.specs.declared.scene.Mode.TheVariants.{V, C, HC, K}
use Rattle.chw_terms.specs.declared.term.Arg.{Arg}
use Rattle.chw_terms.specs.declared.term.Arg.TheVariants.{OfTerm, OfType}
use Rattle.chw_terms.specs.TermSize.{tree_size}
use Rattle.chw_terms.specs.TermTree.{TermTree, var, lam, ty_lam, letrec, prim, case_of}
use Rattle.chw_terms.specs.TermView.{applied}
use Rattle.chw_typing.specs.Given.{types_then, AsksForNone}
use Rattle.chw_typing.specs.Programs.{IsSound}
use Rattle.chw_typing.specs.Scopes.{Setting, HasKind}
use Rattle.chw_typing.specs.Typing.{HasType, h_prim}
use Rattle.chw_typing.specs.TypedSpines.{AtArguments, at_none}
use Rattle.type_laws.specs.KindsKept.{AreOfTerms}
use Rattle.chw_typing.proofs.Heads.{functions_of_terms}
use Rattle.chw_typing.proofs.Kinded.{type_kinded, schema_kind}
use Rattle.chw_typing.proofs.Patterns.{are_of_terms}
use Rattle.chw_typing.proofs.Saturated.{prim_at_arguments}
use Rattle.chw_typing.proofs.TypedSpines.{head_typed, kind_kept}
use Rattle.normal_forms.specs.Blocked.{IsRowOnSignals, HasPayload, payload, by_payload}
use Rattle.rewriting.specs.Active.{Demands, demanded}
use Rattle.rewriting.specs.Named.{IsNamed}
use Rattle.rewriting.specs.Origins.{Origins, setting_at}
use Rattle.rewriting.specs.SceneLaws.{NamedIsDecided, NamedIsTermKind, SameKeepsNamed}
use Rattle.rewriting.specs.Shapes.{IsOfCircuit, pure_of}
use Rattle.rewriting.specs.Spots.{Spot, spot, HasLets, head_mode}
use Rattle.rule_types.proofs.Applied.{IsDomain, fmap_parts, ap_parts}
use Rattle.unroll_laws.proofs.Sized.{first_kind, later_kinds}
use Rattle.rest_places.specs.Chains.{IsChain, chain_on_one, chain_on_more}
use Rattle.rest_places.specs.CircuitHeads.{IsPure, pure_value, IsLeftInHead}
use Rattle.rest_places.specs.Constants.{IsTakenAway, NoUnrolled, taken_letrec, taken_case, taken_constructor, taken_literal, taken_vector}
use Rattle.rest_places.specs.Rest.{IsRestPlace, ground}
use Rattle.rest_places.specs.Spines.{result_of, IsTypeVariable, PrimGiven, IsSpine, on_variable, on_global, on_made, on_lambda, on_type_lambda, on_letrec, on_case, on_constructor, on_primitive, on_literal, on_vector}
use Rattle.rest_places.proofs.Applied.{not_applied, no_definition, no_made_definition}
use Rattle.rest_places.proofs.Below.{rest_below}
use Rattle.rest_places.proofs.Chains.{HeadsBelow, fmap_chain, ap_chain}
use Rattle.rest_places.proofs.Ports.{signal_port}
use Rattle.rest_places.proofs.Constants.{all_at}
use Rattle.rest_places.proofs.Demanded.{no_demanded_let, no_demanded_case}
use Rattle.rest_places.proofs.Elements.{no_get_of_written}
use Rattle.rest_places.proofs.Heads.{words_given, value_asks_none, literal_no_vector, constructor_no_vector}
use Rattle.rest_places.proofs.Smaller.{below_smaller}
use Rattle.rest_places.proofs.Sorts.{row_on_words, row_on_signals, row_of_element, row_of_place, row_unrolled, row_sort, RowSort, element_prim, element_kind}
use Rattle.rest_places.proofs.Spines.{spine_view, takes_none}
use Rattle.rest_places.proofs.Steps.{no_block, retyped}

-- a port takes no arguments
pub port_asks_none : {datas : List Data} {t : TypeTree} {ls : List Leaf} → Leaves datas t ls → AsksForNone t
port_asks_none (one_leaf r) = tt
port_asks_none (leaves_of_fields is many one fields all) = tt

pub no_vector_port : {datas : List Data} {n t : TypeTree} {ls : List Leaf} → Leaves datas (vector n t) ls → ⊥
no_vector_port l = elim l [ ]

pub vector_circuit : {datas : List Data} {domains : ℕ} {scope : List Kind} {m u a : TypeTree} {k : Kind} → KindOf datas domains scope (vector m u) k → SameTypes a u → KindOf datas domains scope a Cir → KindOf datas domains scope (vector m u) Cir
vector_circuit {datas} {domains} {scope} {m} {u} (kind_vector {k = k} d e o) x v = subst (KindOf datas domains scope (vector m u)) (sym (same_kind x v e)) (kind_vector d e o)

-- the primitives on signals
pub data OnSignals : Prim → Type 0 where
  is_fmap : OnSignals Fmap
  is_ap : OnSignals Ap
  is_pure : OnSignals Pure
  is_register : OnSignals Register
  is_block_ram : OnSignals BlockRam
  is_synchronizer : OnSignals UnsafeSynchronizer

pub on_signals : (p : Prim) → IsRowOnSignals (row_of p) → OnSignals p
on_signals Fmap on = is_fmap
on_signals Ap on = is_ap
on_signals Pure on = is_pure
on_signals Register on = is_register
on_signals BlockRam on = is_block_ram
on_signals UnsafeSynchronizer on = is_synchronizer
on_signals _ on = absurd on

-- a signal of one value is no vector
no_pure_vector : {o : Origins} {at : Spot} {d a n w : TypeTree} {v : TermTree} → IsRestPlace o at (pure_of d a v) (vector n w) → ⊥
unfolding sub
no_pure_vector {o} {at} {d} {a} {n} {w} {v} p =
    let given = prim_at_arguments (setting_at o) [] at.vars Pure (Dom ∷ Val ∷ []) (ty_var 0 ∷ []) (signal (ty_var 1) (ty_var 0)) (d ∷ a ∷ []) (v ∷ []) (vector n w) p.place.sound p.place.vars refl refl refl p.has in
    let is = as_signal given.gives in
    let wrong : vector n w ≡ signal is.0 is.1 = is.2 in
    cc

-- the kinds of primitives
prim_kind : {s : Setting} {vars : List TypeTree} {p : Prim} {u : TypeTree} → HasType s [] vars (prim p) u → u ≡ schema_type p
prim_kind h_prim = refl

pub place_kind : {datas : List Data} {domains : ℕ} {k : Kind} → KindOf datas domains [] (row_type ElementAt) k → Val ≡ k
place_kind (kind_for_all (kind_for_all (kind_for_all (kind_fun a (kind_fun b (kind_var h) f) g) l) m) n) = cc

-- a closed type of domains is one
pub domain_of : (s : Setting) → AreOfTerms s.datas → {t : TypeTree} {k : Kind} → HasKind s [] t k → k ≡ Dom → IsDomain s t
domain_of s h (kind_domain {d = n} l) is = (n, refl, l)
domain_of s h (kind_vector a b o) is = absurd (subst IsOfTerms is o)
domain_of s h (kind_data {d = d} {it = it} e ds) is = absurd (subst IsOfTerms is (h d it e))
domain_of s h (kind_fun {j = j} {k = k} a b f) is = absurd (subst IsOfTerms is (functions_of_terms j k f).1)
domain_of s h (kind_for_all a o) is = absurd (subst IsOfTerms is o)
domain_of s h (kind_var e) is = absurd cc
domain_of s h kind_nat is = absurd cc
domain_of s h (kind_sum a b l) is = absurd cc
domain_of s h (kind_product a b l) is = absurd cc
domain_of s h (kind_scalar a) is = absurd cc
domain_of s h (kind_signal a b) is = absurd cc

-- lists of so many
pub data OfOne {X : Type 0} : List X → Type 0 where
  one : {a : X} → OfOne (a ∷ [])

pub data OfTwo {X : Type 0} : List X → Type 0 where
  two : {a b : X} → OfTwo (a ∷ b ∷ [])

pub data OfThree {X : Type 0} : List X → Type 0 where
  three : {a b c : X} → OfThree (a ∷ b ∷ c ∷ [])

pub data OfFour {X : Type 0} : List X → Type 0 where
  four : {a b c d : X} → OfFour (a ∷ b ∷ c ∷ d ∷ [])

pub of_one : {X : Type 0} (xs : List X) → length xs ≡ 1 → OfOne xs
of_one [] l = absurd (omega (arith, l))
of_one (a ∷ []) l = one
of_one (a ∷ b ∷ xs) l = absurd (omega (arith, l))

pub of_two : {X : Type 0} (xs : List X) → length xs ≡ 2 → OfTwo xs
of_two [] l = absurd (omega (arith, l))
of_two (a ∷ []) l = absurd (omega (arith, l))
of_two (a ∷ b ∷ []) l = two
of_two (a ∷ b ∷ c ∷ xs) l = absurd (omega (arith, l))

pub of_three : {X : Type 0} (xs : List X) → length xs ≡ 3 → OfThree xs
of_three [] l = absurd (omega (arith, l))
of_three (a ∷ []) l = absurd (omega (arith, l))
of_three (a ∷ b ∷ []) l = absurd (omega (arith, l))
of_three (a ∷ b ∷ c ∷ []) l = three
of_three (a ∷ b ∷ c ∷ d ∷ xs) l = absurd (omega (arith, l))

pub of_four : {X : Type 0} (xs : List X) → length xs ≡ 4 → OfFour xs
of_four [] l = absurd (omega (arith, l))
of_four (a ∷ []) l = absurd (omega (arith, l))
of_four (a ∷ b ∷ []) l = absurd (omega (arith, l))
of_four (a ∷ b ∷ c ∷ []) l = absurd (omega (arith, l))
of_four (a ∷ b ∷ c ∷ d ∷ []) l = four
of_four (a ∷ b ∷ c ∷ d ∷ e ∷ xs) l = absurd (omega (arith, l))

-- what primitives on words and `vat` give is of no type of circuits, and primitives on signals take no further arguments
pub signals_alone : {p : Prim} → OnSignals p → IsTypeVariable (result_of (schema_type p)) → ⊥
signals_alone is_fmap v = v
signals_alone is_ap v = v
signals_alone is_pure v = v
signals_alone is_register v = v
signals_alone is_block_ram v = v
signals_alone is_synchronizer v = v

no_lets_in_heads : (m : Mode) → m ≡ HC → HasLets m → ⊥
no_lets_in_heads m k l = subst HasLets k l

module _ (decided : NamedIsDecided) (kept : SameKeepsNamed) (kind_named : NamedIsTermKind) (unrolled : NoUnrolled) (o : Origins) where
  -- a type of circuits isn't representable
  no_value : (t : TypeTree) → IsSound (setting_at o) → HasKind (setting_at o) [] t Cir → Representable o.program.datas t → ⊥
  no_value t sound v r = let wrong : Cir ≡ Val = kind_named (setting_at o) V t Cir sound v r in cc

  -- no variable's type is one that is no port
  circuit_variable : (at : Spot) (x : ℕ) (args : List Arg) (t u : TypeTree) → at.mode ≡ HC → IsRestPlace o at (applied (var x) args) t → slice_get at.vars x ≡ Some u → AtArguments (setting_at o) [] at.vars u args t → (IsPort o.program.datas t → ⊥) → ⊥
  circuit_variable at x args t u k p is leads no_port =
      let named = subst (λ m. AllByRecursion (IsNamed o.program.datas (ground m)) at.vars) k p.named in
      let port : IsPort o.program.datas u = all_at (IsNamed o.program.datas C) at.vars x u named is in
      let none = takes_none leads (port_asks_none port.1) in
      no_port (subst (IsPort o.program.datas) none.same port)

  -- at rest a register, a block RAM or a synchronizer has a representable payload, so it gives a port
  payload_blocks : (at : Spot) (p : Prim) (args : List Arg) (j : ℕ) (d a t : TypeTree) → HasPayload p j → slice_get args j ≡ Some (OfType a) → HasKind (setting_at o) [] d Dom → HasKind (setting_at o) [] a Val → SameTypes (signal d a) t → IsRestPlace o at (applied (prim p) args) t → (IsPort o.program.datas t → ⊥) → ⊥
  payload_blocks at p args j d a t has is in_domain kind same rest no_port =
      no_block (payload a) (by_payload p args j has is (λ r.
      let parts = as_signal same in
      let place = domain_of (setting_at o) (are_of_terms (setting_at o) rest.place.sound) in_domain refl in
      let there = as_domain (subst (λ d. SameTypes d parts.0) place.1 parts.3) in
      let value = kept (setting_at o) V a parts.1 Val rest.place.sound kind parts.4 r in
      no_port (subst (IsPort o.program.datas) (sym parts.2) (subst (λ e. IsPort o.program.datas (signal e parts.1)) (sym there) (signal_port place.0 value))))) rest

  abbrev Left : TermTree → Type 0
  Left e = IsPure e ⊎ ((n : ℕ) × IsChain e n)

  -- what a primitive on signals is given
  abbrev Given : ℕ → Spot → Prim → List TypeTree → List TermTree → TypeTree → Type 0
  Given n at p types es t = (tree_size (applied (prim p) (types_then types es)) < suc n) × (at.mode ≡ HC) × PrimGiven (setting_at o) at.vars p types es [] t × IsRestPlace o at (applied (prim p) (types_then types es)) t × (IsPort o.program.datas t → ⊥)

  in_circuit : {m : Mode} → m ≡ HC → IsOfCircuit m
  in_circuit k = subst IsOfCircuit (sym k) tt

  left_fmap : (n : ℕ) → HeadsBelow decided kept o n → (at : Spot) {types : List TypeTree} {es : List TermTree} (t : TypeTree) → OfThree types → OfTwo es → Given n at Fmap types es t → Left (applied (prim Fmap) (types_then types es))
  left_fmap n below at t (three {a = d} {b = a} {c = b}) (two {a = f} {b = s}) (small, k, given, rest, no_port) = inr (1, fmap_chain decided kept o n below at d a b f s t (in_circuit k) small rest)

  left_ap : (n : ℕ) → HeadsBelow decided kept o n → (at : Spot) {types : List TypeTree} {es : List TermTree} (t : TypeTree) → OfThree types → OfTwo es → Given n at Ap types es t → Left (applied (prim Ap) (types_then types es))
  left_ap n below at t (three {a = d} {b = a} {c = b}) (two {a = u} {b = s}) (small, k, given, rest, no_port) = inr (ap_chain decided kept o n below at d a b u s t (in_circuit k) small rest)

  left_pure : {types : List TypeTree} {es : List TermTree} → OfTwo types → OfOne es → Left (applied (prim Pure) (types_then types es))
  left_pure two one = inl pure_value

  given_type : (at : Spot) {u t : TypeTree} → AtArguments (setting_at o) [] at.vars u [] t → u ≡ t
  given_type at at_none = refl

  no_register : (n : ℕ) (at : Spot) {types : List TypeTree} {es : List TermTree} (t : TypeTree) → OfTwo types → Given n at Register types es t → ⊥
  unfolding sub
  no_register n at {es = es} t (two {a = d} {b = a}) (small, k, given, rest, no_port) =
      payload_blocks at Register (types_then (d ∷ a ∷ []) es) 1 d a t refl refl (first_kind given.saturated.have) (first_kind (later_kinds given.saturated.have)) (subst (SameTypes (signal d a)) (given_type at given.leads) given.saturated.gives) rest no_port

  no_block_ram : (n : ℕ) (at : Spot) {types : List TypeTree} {es : List TermTree} (t : TypeTree) → OfFour types → Given n at BlockRam types es t → ⊥
  unfolding sub
  no_block_ram n at {es = es} t (four {a = d} {b = l} {c = w} {d = a}) (small, k, given, rest, no_port) =
      payload_blocks at BlockRam (types_then (d ∷ l ∷ w ∷ a ∷ []) es) 3 d a t refl refl (first_kind given.saturated.have) (first_kind (later_kinds (later_kinds (later_kinds given.saturated.have)))) (subst (SameTypes (signal d a)) (given_type at given.leads) given.saturated.gives) rest no_port

  no_synchronizer : (n : ℕ) (at : Spot) {types : List TypeTree} {es : List TermTree} (t : TypeTree) → OfThree types → Given n at UnsafeSynchronizer types es t → ⊥
  unfolding sub
  no_synchronizer n at {es = es} t (three {a = d} {b = e} {c = a}) (small, k, given, rest, no_port) =
      payload_blocks at UnsafeSynchronizer (types_then (d ∷ e ∷ a ∷ []) es) 2 e a t refl refl (first_kind (later_kinds given.saturated.have)) (first_kind (later_kinds (later_kinds given.saturated.have))) (subst (SameTypes (signal e a)) (given_type at given.leads) given.saturated.gives) rest no_port

  left_signals : (n : ℕ) → HeadsBelow decided kept o n → (at : Spot) {p : Prim} (types : List TypeTree) (es : List TermTree) (t : TypeTree) → OnSignals p → Given n at p types es t → Left (applied (prim p) (types_then types es))
  left_signals n below at types es t is_fmap g = left_fmap n below at t (of_three types g.2.on_types) (of_two es g.2.on_terms) g
  left_signals n below at types es t is_ap g = left_ap n below at t (of_three types g.2.on_types) (of_two es g.2.on_terms) g
  left_signals n below at types es t is_pure g = left_pure (of_two types g.2.on_types) (of_one es g.2.on_terms)
  left_signals n below at types es t is_register g = absurd (no_register n at t (of_two types g.2.on_types) g)
  left_signals n below at types es t is_block_ram g = absurd (no_block_ram n at t (of_four types g.2.on_types) g)
  left_signals n below at types es t is_synchronizer g = absurd (no_synchronizer n at t (of_three types g.2.on_types) g)

  -- at rest no element of circuits is taken
  pub get_left : (at at' : Spot) (i m a w : TypeTree) (v : TermTree) (more : List Arg) (t n : TypeTree) → IsLeftInHead o.program.datas v → IsRestPlace o at' v (vector n w) → Demands o at VGetC (OfType i ∷ OfType m ∷ OfType a ∷ OfTerm v ∷ []) 3 v → IsRestPlace o at (applied (applied (prim VGetC) (types_then (i ∷ m ∷ a ∷ []) (v ∷ []))) more) t → ⊥
  get_left at at' i m a w v more t n (inl (taken_letrec {g = g} {e = e})) p d rest = no_demanded_let o at VGetC (types_then (i ∷ m ∷ a ∷ []) (v ∷ [])) more t 3 refl rest (g, e, d)
  get_left at at' i m a w v more t n (inl (taken_case {e = e} {alts = alts})) p d rest = no_demanded_case o at VGetC (types_then (i ∷ m ∷ a ∷ []) (v ∷ [])) more t 3 refl rest (e, alts, d)
  get_left at at' i m a w v more t n (inl (taken_constructor k)) p d rest = constructor_no_vector p k
  get_left at at' i m a w v more t n (inl taken_literal) p d rest = literal_no_vector p.has
  get_left at at' i m a w v more t n (inl (taken_vector {t = u} {es = es})) p d rest = no_get_of_written o at VGetC i m a u es more t (inr refl) rest
  get_left at at' i m a w v more t n (inr (inl pure_value)) p d rest = no_pure_vector p
  get_left at at' i m a w v more t n (inr (inr (k, chain_on_one))) p d rest = let is = as_signal (fmap_parts p.place.sound p.place.vars p.has).gives in let wrong : vector n w ≡ signal is.0 is.1 = is.2 in cc
  get_left at at' i m a w v more t n (inr (inr (k, chain_on_more c))) p d rest = let is = as_signal (ap_parts p.place.sound p.place.vars p.has).gives in let wrong : vector n w ≡ signal is.0 is.1 = is.2 in cc

  not_constant : {m : Mode} → m ≡ HC → m ≡ K → ⊥
  not_constant k q = let wrong = sym k ∙ q in cc

  not_named : {m : Mode} {u : TypeTree} → m ≡ HC → (IsPort o.program.datas u → ⊥) → IsNamed o.program.datas m u → ⊥
  not_named {u = u} k other n = other (subst (λ m. IsNamed o.program.datas m u) k n)

  no_get : (n : ℕ) → HeadsBelow decided kept o n → (at : Spot) {types : List TypeTree} {es : List TermTree} (more : List Arg) (t : TypeTree) → OfThree types → OfOne es → tree_size (applied (applied (prim VGetC) (types_then types es)) more) < suc n → at.mode ≡ HC → PrimGiven (setting_at o) at.vars VGetC types es more t → IsRestPlace o at (applied (applied (prim VGetC) (types_then types es)) more) t → ⊥
  unfolding sub
  no_get n below at more t (three {a = i} {b = m} {c = a}) (one {a = v}) small k given rest =
      let parts = as_vector given.saturated.args_given.0.same in
      let has = subst (HasType (setting_at o) [] at.vars v) parts.2 given.saturated.args_given.0.has in
      let kinded = type_kinded has rest.place.sound rest.place.vars in
      let circuit = vector_circuit kinded.has parts.4 (first_kind (later_kinds (later_kinds given.saturated.have))) in
      let no_port : IsPort o.program.datas (vector parts.0 parts.1) → ⊥ = λ p. no_vector_port p.1 in
      let e = applied (applied (prim VGetC) (types_then (i ∷ m ∷ a ∷ []) (v ∷ []))) more in
      let b = demanded {p = VGetC} {args = OfType i ∷ OfType m ∷ OfType a ∷ OfTerm v ∷ more} (record { no_constant = not_constant k; looks = refl; is = refl; type = vector parts.0 parts.1; has = has; unnamed = not_named k no_port }) in
      let to = spot (head_mode at.mode) false at.vars in
      let there = retyped (rest_below decided o at to e v t _ rest b).1 has in
      let less = below_smaller b in
      get_left at to i m a parts.1 v more t parts.0
      (below to v (vector parts.0 parts.1) (omega (arith, small, less)) (ap head_mode k) there tt circuit no_port) there
      (record { no_constant = not_constant k; looks = refl; is = refl; type = vector parts.0 parts.1; has = has; unnamed = not_named k no_port }) rest

  -- the kind of what a primitive gives is that of its own type
  pub kind_of : (at : Spot) (p : Prim) (args : List Arg) (t : TypeTree) (k : Kind) → IsRestPlace o at (applied (prim p) args) t → HasKind (setting_at o) [] t k → HasKind (setting_at o) [] (schema_type p) k
  kind_of at p args t k rest v =
      let of = head_typed (setting_at o) [] at.vars (prim p) args t rest.has in
      let own = schema_kind (setting_at o) p rest.place.sound in
      let leads = subst (λ u. AtArguments (setting_at o) [] at.vars u args t) (prim_kind of.1) of.2 in
      subst (HasKind (setting_at o) [] (schema_type p)) (one_kind (kind_kept leads own.kind own.has) v) own.has

  -- a primitive
  left_prim : (n : ℕ) → HeadsBelow decided kept o n → (at : Spot) (p : Prim) (types : List TypeTree) (es : List TermTree) (more : List Arg) (t : TypeTree) → tree_size (applied (applied (prim p) (types_then types es)) more) < suc n → at.mode ≡ HC → HasKind (setting_at o) [] t Cir → PrimGiven (setting_at o) at.vars p types es more t → IsRestPlace o at (applied (applied (prim p) (types_then types es)) more) t → (IsPort o.program.datas t → ⊥) → Left (applied (applied (prim p) (types_then types es)) more)
  left_prim n below at p types es more t small k v given rest no_port = by (row_sort (row_of p))
    where
      own : HasKind (setting_at o) [] (schema_type p) Cir
      own = kind_of at p (types_then types es ++ more) t Cir (subst (λ e. IsRestPlace o at e t) (sym (applied_more (prim p) (types_then types es) more)) rest) v

      get : (j : Kind) → ((p ≡ VGet) × (j ≡ Val)) ⊎ ((p ≡ VGetC) × (j ≡ Cir)) → row_of p ≡ Element j → ⊥
      get j (inl q) is =
          let kind : j ≡ Cir = element_kind j (subst (λ row. KindOf o.program.datas (setting_at o).domains [] (row_type row) Cir) is own) in
          let other : j ≡ Val = q.1 in
          cc
      get j (inr q) is = got q.0 types es small given rest
        where
          got : p ≡ VGetC → (types : List TypeTree) (es : List TermTree) → tree_size (applied (applied (prim p) (types_then types es)) more) < suc n → PrimGiven (setting_at o) at.vars p types es more t → IsRestPlace o at (applied (applied (prim p) (types_then types es)) more) t → ⊥
          got q types es small given rest =
              let on = subst (λ p. PrimGiven (setting_at o) at.vars p types es more t) q given in
              no_get n below at more t (of_three types on.on_types) (of_one es on.on_terms)
              (subst (λ p. tree_size (applied (applied (prim p) (types_then types es)) more) < suc n) q small) k on
              (subst (λ p. IsRestPlace o at (applied (applied (prim p) (types_then types es)) more) t) q rest)

      by : RowSort (row_of p) → Left (applied (applied (prim p) (types_then types es)) more)
      by (row_on_words on) =
          let value = words_given (setting_at o) rest.place.sound (row_of p) on (arguments (trees_of types)) given.type given.saturated.gives in
          let is = subst (Representable o.program.datas) (takes_none given.leads (value_asks_none value)).same value in
          absurd (no_value t rest.place.sound v is)
      by (row_on_signals on) =
          let of = on_signals p on in
          let none = given.alone (signals_alone of) in
          let alone : Left (applied (prim p) (types_then types es)) =
          left_signals n below at types es t of (
            subst (λ more. tree_size (applied (applied (prim p) (types_then types es)) more) < suc n) none small,
            k,
            subst (λ more. PrimGiven (setting_at o) at.vars p types es more t) none given,
            subst (λ more. IsRestPlace o at (applied (applied (prim p) (types_then types es)) more) t) none rest,
            no_port,
          )
          in
          subst (λ more. Left (applied (applied (prim p) (types_then types es)) more)) (sym none) alone
      by (row_of_element j is) = absurd (get j (element_prim p j is) is)
      by (row_of_place is) =
          let kind : Val ≡ Cir = place_kind (subst (λ row. KindOf o.program.datas (setting_at o).domains [] (row_type row) Cir) is own) in
          cc
      by (row_unrolled on other) = absurd (unrolled o at p types es more t on (λ q. absurd (other (ap row_of q))) given rest)

  left_spine : (n : ℕ) → HeadsBelow decided kept o n → (at : Spot) (e : TermTree) (t : TypeTree) → tree_size e < suc n → at.mode ≡ HC → IsRestPlace o at e t → HasKind (setting_at o) [] t Cir → (IsPort o.program.datas t → ⊥) → IsSpine (setting_at o) at.vars t e → IsLeftInHead o.program.datas e
  left_spine n below at e t small k p v no_port (on_variable x args {u = u} is leads) = absurd (circuit_variable at x args t u k p is leads no_port)
  left_spine n below at e t small k p v no_port (on_global d args is leads) = absurd (no_definition o at d args t (no_lets_in_heads at.mode k) p)
  left_spine n below at e t small k p v no_port (on_made m args is leads) = absurd (no_made_definition o at m args t (no_lets_in_heads at.mode k) p)
  left_spine n below at e t small k p v no_port (on_lambda b f a rest d leads) = absurd (let none = not_applied o at (lam b f) (OfTerm a ∷ rest) t p tt in cc)
  left_spine n below at e t small k p v no_port (on_type_lambda j f a rest d leads) = absurd (let none = not_applied o at (ty_lam j f) (OfType a ∷ rest) t p tt in cc)
  left_spine n below at e t small k p v no_port (on_letrec g f args d leads) = inl (subst (λ args. IsTakenAway o.program.datas (applied (letrec g f) args)) (sym (not_applied o at (letrec g f) args t p tt)) taken_letrec)
  left_spine n below at e t small k p v no_port (on_case f alts args d leads) = inl (subst (λ args. IsTakenAway o.program.datas (applied (case_of f alts) args)) (sym (not_applied o at (case_of f alts) args t p tt)) taken_case)
  left_spine n below at e t small k p v no_port (on_constructor c types es {it = it} given) =
      inl (taken_constructor (record { con_number = c; it = it; types = types; es = es; is = given.is; on_types = given.on_types; on_terms = given.on_terms; term = refl }))
  left_spine n below at e t small k p v no_port (on_primitive q types es more given) = inr (left_prim n below at q types es more t small k v given p no_port)
  left_spine n below at e t small k p v no_port (on_literal r bits l is) = inl taken_literal
  left_spine n below at e t small k p v no_port (on_vector u es l have is) = inl taken_vector

  pub heads_below : (n : ℕ) → HeadsBelow decided kept o n
  heads_below zero at e t small k p asks v no_port = absurd (omega (arith, small))
  heads_below (suc n) at e t small k p asks v no_port = left_spine n (heads_below n) at e t small k p v no_port (spine_view (setting_at o) at.vars e t p.place.sound p.place.vars p.has asks)

  -- what is at the head of a circuit, of a type of circuits that is no port
  pub circuit_heads_go : (at : Spot) (e : TermTree) (t : TypeTree) → at.mode ≡ HC → IsRestPlace o at e t → AsksForNone t → HasKind (setting_at o) [] t Cir → (IsPort o.program.datas t → ⊥) → IsLeftInHead o.program.datas e
  circuit_heads_go at e t k p asks v no_port = heads_below (suc (tree_size e)) at e t (omega arith) k p asks v no_port
