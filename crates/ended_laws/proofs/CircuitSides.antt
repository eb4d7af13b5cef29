-- Where circuits are built, a term at rest of which the type is a port is a right side of the normal form, or a letrec.
use Rattle.std.proofs.Common.{◌≡◌, ◌⊎◌, inl, inr, sym, subst, ℕ, List, [], ◌∷◌, Some}
use Rattle.std.specs.List.{slice_get, AllByRecursion}
use Rattle.chw_types.specs.TypeTree.{TypeTree}
use Rattle.type_ports.specs.Ports.{IsPort}
use Rattle.chw_layout.specs.Refusals.{RepresentableIsMeasured}
use Rattle.layout_laws.specs.Numbering.{ConstructorsByPlace}
use Rattle.layout_laws.specs.SameLayout.{SameKeepsMeasure}
use Rattle.chw_terms.specs.declared.scene.Mode.TheVariants.{C}
use Rattle.chw_terms.specs.declared.term.Arg.{Arg}
use Rattle.chw_terms.specs.declared.term.Arg.TheVariants.{OfTerm, OfType}
use Rattle.chw_terms.specs.TermTree.{TermTree, var, lam, ty_lam, letrec, case_of}
use Rattle.chw_terms.specs.TermView.{applied}
use Rattle.chw_typing.specs.TypedSpines.{AtArguments}
use Rattle.normal_forms.specs.Circuits.{IsCircuitSide, of_variable}
use Rattle.rewriting.specs.Named.{IsNamed}
use Rattle.rewriting.specs.Origins.{Origins, setting_at}
use Rattle.rewriting.specs.SceneLaws.{NamedIsDecided, NamedIsTermKind, SameKeepsNamed}
use Rattle.rewriting.specs.Shapes.{IsLet}
use Rattle.rewriting.specs.Spots.{Spot}
use Rattle.rest_places.specs.Chains.{MadeAreNamed}
use Rattle.rest_places.specs.Constants.{NoUnrolled}
use Rattle.rest_places.specs.Rest.{IsRestPlace, ground}
use Rattle.rest_places.specs.Spines.{IsSpine, on_variable, on_global, on_made, on_lambda, on_type_lambda, on_letrec, on_case, on_constructor, on_primitive, on_literal, on_vector}
use Rattle.rest_places.proofs.Applied.{not_applied}
use Rattle.rest_places.proofs.CircuitHeads.{port_asks_none, no_vector_port}
use Rattle.rest_places.proofs.Constants.{all_at}
use Rattle.rest_places.proofs.Spines.{spine_view, takes_none}
use Rattle.ended_laws.proofs.Calls.{no_call}
use Rattle.ended_laws.proofs.CircuitCalls.{circuits_have_lets, circuit_call}
use Rattle.ended_laws.proofs.CircuitCases.{no_scalar_port, circuit_case}
use Rattle.ended_laws.proofs.CircuitData.{circuit_con}
use Rattle.ended_laws.proofs.CircuitPrims.{circuit_prim}

module _ (decided : NamedIsDecided) (kind_named : NamedIsTermKind) (kept : SameKeepsNamed) (unrolled : NoUnrolled) (measured : RepresentableIsMeasured) (same_measure : SameKeepsMeasure) (places : ConstructorsByPlace) (o : Origins) (named : MadeAreNamed o) where
  -- a variable has no arguments
  variable_side : (at : Spot) (x : ℕ) (args : List Arg) (t u : TypeTree) → at.mode ≡ C → IsRestPlace o at (applied (var x) args) t → slice_get at.vars x ≡ Some u → AtArguments (setting_at o) [] at.vars u args t → IsCircuitSide o (applied (var x) args)
  variable_side at x args t u k p is leads =
      let scope = subst (λ m. AllByRecursion (IsNamed o.program.datas (ground m)) at.vars) k p.named in
      let port : IsPort o.program.datas u = all_at (IsNamed o.program.datas C) at.vars x u scope is in
      subst (λ args. IsCircuitSide o (applied (var x) args)) (sym (takes_none leads (port_asks_none port.1)).none) of_variable

  side_spine : (at : Spot) (e : TermTree) (t : TypeTree) → at.mode ≡ C → IsRestPlace o at e t → IsPort o.program.datas t → IsSpine (setting_at o) at.vars t e → IsCircuitSide o e ⊎ IsLet e
  side_spine at e t k p port (on_variable x args {u = u} is leads) = inl (variable_side at x args t u k p is leads)
  side_spine at e t k p port (on_global d args is leads) = absurd (no_call kept o at d args t (circuits_have_lets at k) p (subst (λ m. IsNamed o.program.datas m t) (sym k) port))
  side_spine at e t k p port (on_made m args {u = u} is leads) = inl (circuit_call kept o named at m args t u k p port is leads)
  side_spine at e t k p port (on_lambda b f a rest d leads) = absurd (let none = not_applied o at (lam b f) (OfTerm a ∷ rest) t p tt in cc)
  side_spine at e t k p port (on_type_lambda j f a rest d leads) = absurd (let none = not_applied o at (ty_lam j f) (OfType a ∷ rest) t p tt in cc)
  side_spine at e t k p port (on_letrec g f args d leads) = inr (subst (λ args. IsLet (applied (letrec g f) args)) (sym (not_applied o at (letrec g f) args t p tt)) tt)
  side_spine at e t k p port (on_case f alts args d leads) =
      let none = not_applied o at (case_of f alts) args t p tt in
      inl (subst (λ args. IsCircuitSide o (applied (case_of f alts) args)) (sym none)
      (circuit_case decided kind_named kept unrolled places o at f alts t k (subst (λ args. IsRestPlace o at (applied (case_of f alts) args) t) none p)))
  side_spine at e t k p port (on_constructor c types es {it = it} given) = inl (circuit_con kept o at c it types es t k given p port)
  side_spine at e t k p port (on_primitive q types es more given) = inl (circuit_prim decided kind_named kept unrolled measured same_measure o named at q types es more t k given p port)
  side_spine at e t k p port (on_literal r bits l is) = absurd (let own = subst (IsPort o.program.datas) (sym is) port in no_scalar_port own.1)
  side_spine at e t k p port (on_vector u es l have is) = absurd (let own = subst (IsPort o.program.datas) (sym is) port in no_vector_port own.1)

  -- right sides of circuits at rest
  pub circuit_sides_stand : (at : Spot) (e : TermTree) (t : TypeTree) → at.mode ≡ C → IsRestPlace o at e t → IsPort o.program.datas t → IsCircuitSide o e ⊎ IsLet e
  circuit_sides_stand at e t k p port = side_spine at e t k p port (spine_view (setting_at o) at.vars e t p.place.sound p.place.vars p.has (port_asks_none port.1))
