-- Where circuits are built, what is at a result place at rest is a body of the normal form.
use Rattle.std.proofs.Common.{◌≡◌, ◌⊎◌, inl, inr, refl, sym, subst, ℕ, suc, zero, true, false, Some}
use Rattle.chw_types.specs.TypeTree.{TypeTree}
use Rattle.type_ports.specs.Ports.{IsPort}
use Rattle.chw_layout.specs.Refusals.{RepresentableIsMeasured}
use Rattle.layout_laws.specs.Numbering.{ConstructorsByPlace}
use Rattle.layout_laws.specs.SameLayout.{SameKeepsMeasure}
use Rattle.chw_terms.specs.declared.scene.Mode.TheVariants.{C}
use Rattle.chw_terms.specs.TermTree.{TermTree, var, letrec, Group, no_bindings, bind}
use Rattle.chw_typing.specs.Groups.{binding_at}
use Rattle.chw_typing.specs.Scopes.{with_more, declared}
use Rattle.normal_forms.specs.Circuits.{IsCircuitSide, AreCircuitSides, no_circuit_sides, circuit_side_and, IsCircuitBody, circuit_variable, circuit_letrec}
use Rattle.normal_laws.proofs.Declared.{declared_holds}
use Rattle.rewriting.specs.Named.{IsNamed}
use Rattle.rewriting.specs.Origins.{Origins}
use Rattle.rewriting.specs.SceneLaws.{NamedIsDecided, NamedIsTermKind, SameKeepsNamed}
use Rattle.rewriting.specs.Shapes.{IsVariable, IsLet, NoLetIn}
use Rattle.rewriting.specs.Spots.{Spot, spot}
use Rattle.rest_places.specs.Chains.{MadeAreNamed}
use Rattle.rest_places.specs.Constants.{NoUnrolled}
use Rattle.rest_places.specs.Rest.{IsRestPlace}
use Rattle.rest_places.proofs.Lets.{bindings_named, lets_no_head, no_let_in_sides, no_let_in_body}
use Rattle.rest_places.proofs.Operands.{result_is_named}
use Rattle.rest_places.proofs.Parts.{side_at_rest, body_at_rest}
use Rattle.ended_laws.proofs.CircuitCalls.{circuits_have_lets}
use Rattle.ended_laws.proofs.CircuitSides.{circuit_sides_stand}

are_circuit_sides : (o : Origins) (g : Group) → ((i : ℕ) (b : TypeTree × TermTree) → binding_at g i ≡ Some b → IsPort o.program.datas b.0 × IsCircuitSide o b.1) → AreCircuitSides o g
are_circuit_sides o no_bindings h = no_circuit_sides
are_circuit_sides o (bind t e g) h = let first = h 0 (t, e) refl in circuit_side_and first.0 first.1 (are_circuit_sides o g (λ i b k. h (suc i) b k))

no_let_at : (g : Group) (i : ℕ) (b : TypeTree × TermTree) → NoLetIn g → binding_at g i ≡ Some b → IsLet b.1 → ⊥
no_let_at no_bindings i b n h l = cc
no_let_at (bind t e g) zero b n h l = let same : (t, e) ≡ b = cc in n.0 (subst (λ (c : TypeTree × TermTree). IsLet c.1) (sym same) l)
no_let_at (bind t e g) (suc i) b n h l = no_let_at g i b n.1 h l

no_letrec : {o : Origins} (e : TermTree) → (IsLet e → ⊥) → IsCircuitSide o e ⊎ IsLet e → IsCircuitSide o e
no_letrec e other (inl side) = side
no_letrec e other (inr l) = absurd (other l)

-- the body of a letrec, which is none, is a variable
letrec_body : (o : Origins) (g : Group) (e : TermTree) → AreCircuitSides o g → (IsLet e → ⊥) → IsVariable e ⊎ IsLet e → IsCircuitBody o (letrec g e)
letrec_body o g (var x) sides other named = circuit_letrec sides
letrec_body o g e sides other (inr l) = absurd (other l)
letrec_body o g _ sides other (inl v) = absurd v

module _ (decided : NamedIsDecided) (kind_named : NamedIsTermKind) (kept : SameKeepsNamed) (unrolled : NoUnrolled) (measured : RepresentableIsMeasured) (same_measure : SameKeepsMeasure) (places : ConstructorsByPlace) (o : Origins) (named : MadeAreNamed o) where
  letrec_stands : (at : Spot) (g : Group) (e : TermTree) (t : TypeTree) → at.mode ≡ C → IsRestPlace o at (letrec g e) t → IsCircuitBody o (letrec g e)
  letrec_stands at g e t k p =
      let lets = circuits_have_lets at k in
      let head = lets_no_head at.mode lets in
      let inner = body_at_rest decided o at g e t lets p in
      letrec_body o g e
      (are_circuit_sides o g (λ i b h.
      let own = declared_holds (IsNamed o.program.datas at.mode) g i b (bindings_named decided o at g e t lets p) h in
      let there = side_at_rest decided kept o at g e t i b lets p h in
      let port : IsPort o.program.datas there.type = subst (λ m. IsNamed o.program.datas m there.type) k there.named in
      let stands = circuit_sides_stand decided kind_named kept unrolled measured same_measure places o named (spot at.mode false (with_more (declared g) at.vars)) b.1 there.type k there.rest port in
      (subst (λ m. IsNamed o.program.datas m b.0) k own, no_letrec b.1 (no_let_at g i b (no_let_in_sides o at g e t head p) h) stands)))
      (no_let_in_body o at g e t head p)
      (result_is_named o (spot at.mode true (with_more (declared g) at.vars)) e t lets refl inner)

  body_of : (at : Spot) (e : TermTree) (t : TypeTree) → at.mode ≡ C → IsRestPlace o at e t → IsVariable e ⊎ IsLet e → IsCircuitBody o e
  body_of at (var x) t k p of = circuit_variable
  body_of at (letrec g e) t k p of = letrec_stands at g e t k p
  body_of at _ t k p (inl v) = absurd v
  body_of at _ t k p (inr l) = absurd l

  -- bodies of circuits at rest
  pub circuit_bodies_stand : (at : Spot) (e : TermTree) (t : TypeTree) → at.mode ≡ C → at.result ≡ true → IsRestPlace o at e t → IsCircuitBody o e
  circuit_bodies_stand at e t k r p = body_of at e t k p (result_is_named o at e t (circuits_have_lets at k) r p)
