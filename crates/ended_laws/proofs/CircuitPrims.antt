-- Where circuits are built, a primitive at rest that gives a port is one on signals.
use Rattle.std.proofs.Common.{◌≡◌, ◌⊎◌, inl, inr, refl, sym, ap, subst, false, List, [], ◌∷◌, ◌++◌}
use Rattle.chw_types.specs.declared.kind.Kind.{Kind}
use Rattle.chw_types.specs.declared.kind.Kind.TheVariants.{Val, Cir}
use Rattle.chw_types.specs.Arguments.{arguments}
use Rattle.chw_types.specs.Kinds.{KindOf}
use Rattle.chw_types.specs.TypeMoves.{sub}
use Rattle.chw_types.specs.TypeTree.{TypeTree, vector}
use Rattle.chw_types.specs.TypeView.{trees_of}
use Rattle.type_laws.proofs.SameForms.{as_vector}
use Rattle.type_ports.specs.Ports.{IsPort}
use Rattle.type_ports.specs.Representable.{Representable}
use Rattle.chw_prims.specs.declared.prim.Primitive.{Primitive as Prim}
use Rattle.chw_prims.specs.declared.prim.Primitive.TheVariants.{VGet, VGetC}
use Rattle.chw_prims.specs.declared.row.Row.TheVariants.{Element}
use Rattle.chw_prims.specs.Schemas.{schema_type, row_of, row_type}
use Rattle.chw_layout.specs.Refusals.{RepresentableIsMeasured}
use Rattle.layout_laws.specs.SameLayout.{SameKeepsMeasure}
use Rattle.chw_terms.proofs.Spines.{applied_more}
use Rattle.chw_terms.specs.declared.scene.Mode.TheVariants.{C}
use Rattle.chw_terms.specs.declared.term.Arg.{Arg}
use Rattle.chw_terms.specs.declared.term.Arg.TheVariants.{OfTerm, OfType}
use Rattle.chw_terms.specs.TermTree.{TermTree, prim}
use Rattle.chw_terms.specs.TermView.{applied}
use Rattle.chw_typing.specs.Given.{types_then}
use Rattle.chw_typing.specs.Scopes.{HasKind}
use Rattle.chw_typing.specs.Typing.{HasType}
use Rattle.chw_typing.proofs.Kinded.{type_kinded}
use Rattle.chw_typing.proofs.NamedParts.{not_both}
use Rattle.normal_forms.specs.Circuits.{IsCircuitSide}
use Rattle.rewriting.specs.Active.{demanded}
use Rattle.rewriting.specs.Origins.{Origins, setting_at}
use Rattle.rewriting.specs.SceneLaws.{NamedIsDecided, NamedIsTermKind, SameKeepsNamed}
use Rattle.rewriting.specs.Spots.{Spot, spot, head_mode}
use Rattle.unroll_laws.proofs.Sized.{first_kind, later_kinds}
use Rattle.rest_places.specs.Chains.{MadeAreNamed}
use Rattle.rest_places.specs.Constants.{NoUnrolled}
use Rattle.rest_places.specs.Rest.{IsRestPlace}
use Rattle.rest_places.specs.Spines.{PrimGiven}
use Rattle.rest_places.proofs.Below.{rest_below}
use Rattle.rest_places.proofs.CircuitHeads.{OfOne, one, OfThree, three, of_one, of_three, on_signals, signals_alone, no_vector_port, vector_circuit, place_kind, get_left, kind_of, circuit_heads_go}
use Rattle.rest_places.proofs.Heads.{words_given, value_asks_none}
use Rattle.rest_places.proofs.Ports.{named_port, circuit_head, not_constant}
use Rattle.rest_places.proofs.Sorts.{RowSort, row_on_words, row_on_signals, row_of_element, row_of_place, row_unrolled, row_sort, element_prim, element_kind}
use Rattle.rest_places.proofs.Spines.{takes_none}
use Rattle.rest_places.proofs.Steps.{retyped}
use Rattle.ended_laws.proofs.CircuitSignals.{in_circuit, signals_side}

module _ (decided : NamedIsDecided) (kind_named : NamedIsTermKind) (kept : SameKeepsNamed) (unrolled : NoUnrolled) (measured : RepresentableIsMeasured) (same_measure : SameKeepsMeasure) (o : Origins) (named : MadeAreNamed o) where
  -- at rest no element of circuits is taken
  no_circuit_get : (at : Spot) {types : List TypeTree} {es : List TermTree} (more : List Arg) (t : TypeTree) → OfThree types → OfOne es → at.mode ≡ C → PrimGiven (setting_at o) at.vars VGetC types es more t → IsRestPlace o at (applied (applied (prim VGetC) (types_then types es)) more) t → ⊥
  unfolding sub
  no_circuit_get at more t (three {a = i} {b = m} {c = a}) (one {a = v}) k given rest =
      let c = in_circuit k in
      let parts = as_vector given.saturated.args_given.0.same in
      let has = subst (HasType (setting_at o) [] at.vars v) parts.2 given.saturated.args_given.0.has in
      let kinded = type_kinded has rest.place.sound rest.place.vars in
      let circuit = vector_circuit kinded.has parts.4 (first_kind (later_kinds (later_kinds given.saturated.have))) in
      let no_port : IsPort o.program.datas (vector parts.0 parts.1) → ⊥ = λ p. no_vector_port p.1 in
      let e = applied (applied (prim VGetC) (types_then (i ∷ m ∷ a ∷ []) (v ∷ []))) more in
      let b = demanded {p = VGetC} {args = OfType i ∷ OfType m ∷ OfType a ∷ OfTerm v ∷ more} (record { no_constant = not_constant c; looks = refl; is = refl; type = vector parts.0 parts.1; has = has; unnamed = λ q. no_port (named_port at.mode c q) }) in
      let to = spot (head_mode at.mode) false at.vars in
      let there = retyped (rest_below decided o at to e v t _ rest b).1 has in
      get_left decided kept kind_named unrolled o at to i m a parts.1 v more t parts.0
      (circuit_heads_go decided kept kind_named unrolled o to v (vector parts.0 parts.1) (circuit_head at.mode c) there tt circuit no_port) there
      (record { no_constant = not_constant c; looks = refl; is = refl; type = vector parts.0 parts.1; has = has; unnamed = λ q. no_port (named_port at.mode c q) }) rest

  -- a primitive at rest that gives a port
  pub circuit_prim : (at : Spot) (p : Prim) (types : List TypeTree) (es : List TermTree) (more : List Arg) (t : TypeTree) → at.mode ≡ C → PrimGiven (setting_at o) at.vars p types es more t → IsRestPlace o at (applied (applied (prim p) (types_then types es)) more) t → IsPort o.program.datas t → IsCircuitSide o (applied (applied (prim p) (types_then types es)) more)
  circuit_prim at p types es more t k given rest port = by (row_sort (row_of p))
    where
      circuit : HasKind (setting_at o) [] t Cir
      circuit =
          let of = type_kinded rest.has rest.place.sound rest.place.vars in
          let is : of.kind ≡ Cir = kind_named (setting_at o) C t of.kind rest.place.sound of.has port in
          subst (HasKind (setting_at o) [] t) is of.has

      own : HasKind (setting_at o) [] (schema_type p) Cir
      own = kind_of decided kept kind_named unrolled o at p (types_then types es ++ more) t Cir (subst (λ e. IsRestPlace o at e t) (sym (applied_more (prim p) (types_then types es) more)) rest) circuit

      get : (j : Kind) → ((p ≡ VGet) × (j ≡ Val)) ⊎ ((p ≡ VGetC) × (j ≡ Cir)) → row_of p ≡ Element j → ⊥
      get j (inl q) is =
          let kind : j ≡ Cir = element_kind j (subst (λ row. KindOf o.program.datas (setting_at o).domains [] (row_type row) Cir) is own) in
          let other : j ≡ Val = q.1 in
          cc
      get j (inr q) is =
          let on = subst (λ p. PrimGiven (setting_at o) at.vars p types es more t) q.0 given in
          no_circuit_get at more t (of_three types on.on_types) (of_one es on.on_terms) k on
          (subst (λ p. IsRestPlace o at (applied (applied (prim p) (types_then types es)) more) t) q.0 rest)

      by : RowSort (row_of p) → IsCircuitSide o (applied (applied (prim p) (types_then types es)) more)
      by (row_on_words on) =
          let value = words_given (setting_at o) rest.place.sound (row_of p) on (arguments (trees_of types)) given.type given.saturated.gives in
          let is = subst (Representable o.program.datas) (takes_none given.leads (value_asks_none value)).same value in
          absurd (not_both is port)
      by (row_on_signals on) =
          let of = on_signals p on in
          let none = given.alone (signals_alone of) in
          let alone : IsCircuitSide o (applied (prim p) (types_then types es)) =
          signals_side decided kind_named kept unrolled measured same_measure o named at types es t of (
            k,
            subst (λ more. PrimGiven (setting_at o) at.vars p types es more t) none given,
            subst (λ more. IsRestPlace o at (applied (applied (prim p) (types_then types es)) more) t) none rest,
            port,
          )
          in
          subst (λ more. IsCircuitSide o (applied (applied (prim p) (types_then types es)) more)) (sym none) alone
      by (row_of_element j is) = absurd (get j (element_prim p j is) is)
      by (row_of_place is) =
          let kind : Val ≡ Cir = place_kind (subst (λ row. KindOf o.program.datas (setting_at o).domains [] (row_type row) Cir) is own) in
          absurd cc
      by (row_unrolled on other) = absurd (unrolled o at p types es more t on (λ q. absurd (other (ap row_of q))) given rest)
