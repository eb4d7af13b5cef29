-- Variables, and constants that are written out: no rule acts on them.
use Rattle.std.proofs.Common.{◌≡◌, ◌∙◌, ◌⊎◌, inl, inr, sym, ap, refl, subst, ℕ, List, map}
use Rattle.chw_terms.specs.declared.rule.Rule.{Rule}
use Rattle.chw_terms.specs.declared.scene.Mode.TheVariants.{K}
use Rattle.chw_terms.specs.TermTree.{TermTree, global, made, con, prim}
use Rattle.chw_typing.specs.Given.{types_then}
use Rattle.rewriting.specs.Calls.{OfWhole, spec_call, anf_call, anf_result}
use Rattle.rewriting.specs.Cases.{OfCases, case_con, case_lit, case_any, case_let, case_case, proj}
use Rattle.rewriting.specs.Instances.{HasInstance, on_core, on_whole}
use Rattle.rewriting.specs.Lifted.{Joins, ap_pure, fmap_pure, fmap_fmap, fmap_ap, ap_value, ap_fmap, ap_ap}
use Rattle.rewriting.specs.Named.{IsNamed}
use Rattle.rewriting.specs.Operands.{StandsAt, of_prim, of_case, of_con, of_vector, StandsInCall, of_global, of_made, NeedsName}
use Rattle.rewriting.specs.Origins.{Origins}
use Rattle.rewriting.specs.Primitives.{OfPrimitives, literal, unroll, elem, elem_at, delta}
use Rattle.rewriting.specs.Shapes.{IsVariable}
use Rattle.rewriting.specs.Signals.{OfSignals, join, eta, spec_function}
use Rattle.rewriting.specs.Spots.{Spot, HasLets}
use Rattle.quiet_sides.specs.Quiet.{IsWritten, written_literal, written_constructor, written_vector}
use Rattle.quiet_sides.proofs.Acts.{Acts, on_binder, on_applied_case, on_case, on_name, on_demanded, on_prim, on_signals, on_operand, acts}
use Rattle.quiet_sides.proofs.Forms.{Form, a_variable, a_name, a_binder, a_constructor, a_primitive, a_literal, a_vector, a_case, form_of, form_applied, variable_form}

-- the forms on which rules may act: on a constructor and on a vector not in constants
abbrev pub Busy : Spot → Form → Type 0
Busy at a_variable = ⊥
Busy at a_literal = ⊥
Busy at a_constructor = at.mode ≡ K → ⊥
Busy at a_vector = at.mode ≡ K → ⊥
Busy at _ = Unit {0}

busy_as : (at : Spot) (f g : Form) → f ≡ g → Busy at g → Busy at f
busy_as at f g q b = subst (Busy at) (sym q) b

none_named : {o : Origins} {at : Spot} {x : TermTree} → NeedsName o at x → at.mode ≡ K → ⊥
none_named {o} n k = subst (λ m. IsNamed o.program.datas m n.type) k n.named

pub case_form : {o : Origins} {at : Spot} {r : Rule} {e new : TermTree} → OfCases o at r e new → form_of e ≡ a_case
case_form (case_con c types es i t s b) = refl
case_form (case_lit b) = refl
case_form case_any = refl
case_form case_let = refl
case_form (case_case h n) = refl
case_form (proj m s p q d f) = refl

pub prim_form : {o : Origins} {at : Spot} {r : Rule} {e new : TermTree} → OfPrimitives o at r e new → form_of e ≡ a_primitive
prim_form (unroll {p = p} {types = types} {es = es} c v u) = form_applied (types_then types es) (prim p)
prim_form (elem k j l e) = refl
prim_form (elem_at m i l e) = refl
prim_form (delta {p = p} {types = types} {words = words} m v) = form_applied (types_then types (map literal words)) (prim p)

join_form : {o : Origins} {at : Spot} {e new : TermTree} → Joins o at e new → form_of e ≡ a_primitive
join_form ap_pure = refl
join_form fmap_pure = refl
join_form (fmap_fmap n f) = refl
join_form (fmap_ap n f) = refl
join_form (ap_value p n f) = refl
join_form (ap_fmap p n f g) = refl
join_form (ap_ap p n f g) = refl

pub signals_form : {o : Origins} {at : Spot} {r : Rule} {e new : TermTree} → OfSignals o at r e new → form_of e ≡ a_primitive
signals_form (join m j) = join_form j
signals_form (eta m l n) = refl
signals_form (spec_function m l n i) = refl

operand_busy : {o : Origins} {at : Spot} {e x : TermTree} {path : List ℕ} → StandsAt o at e path x → NeedsName o at x → Busy at (form_of e)
operand_busy {at = at} (of_prim p args i l k g) n = busy_as at _ a_primitive (form_applied args (prim p)) tt
operand_busy of_case n = tt
operand_busy {at = at} (of_con c args i m j l g) n = busy_as at _ a_constructor (form_applied args (con c)) (none_named n)
operand_busy (of_vector m i) n = none_named n

pub acts_busy : {o : Origins} {at : Spot} {e : TermTree} → Acts o at e → Busy at (form_of e)
acts_busy {at = at} (on_binder f) = busy_as at _ a_binder f tt
acts_busy {at = at} (on_applied_case f n) = busy_as at _ a_case f tt
acts_busy {at = at} (on_case c) = busy_as at _ a_case (case_form c) tt
acts_busy {at = at} (on_name f l) = busy_as at _ a_name f tt
acts_busy {at = at} (on_demanded p args i x q d m) = busy_as at _ a_primitive (ap form_of q ∙ form_applied args (prim p)) tt
acts_busy {at = at} (on_prim c) = busy_as at _ a_primitive (prim_form c) tt
acts_busy {at = at} (on_signals c) = busy_as at _ a_primitive (signals_form c) tt
acts_busy (on_operand s n) = operand_busy s n

pub in_call_form : {at : Spot} {e x : TermTree} {path : List ℕ} → StandsInCall at e path x → form_of e ≡ a_name
in_call_form (of_global d args i l g) = form_applied args (global d)
in_call_form (of_made m args i l g) = form_applied args (made m)

-- of a whole term, that is no variable at a place of a result
whole_busy : {o : Origins} {at : Spot} {r : Rule} {e new : TermTree} → (IsVariable e ⊎ (at.mode ≡ K)) → OfWhole o at r e new → Busy at (form_of e)
whole_busy {at = at} h (spec_call l c n) = busy_as at _ a_name (ap form_of c.is ∙ form_applied c.args (global c.of)) tt
whole_busy {at = at} h (anf_call f t) = busy_as at _ a_name (in_call_form f.is.0) tt
whole_busy (inl v) (anf_result l r n w u t) = absurd (n v)
whole_busy (inr k) (anf_result l r n w u t) = absurd (subst HasLets k l)

instance_busy : {o : Origins} {at : Spot} {r : Rule} {e new : TermTree} → (IsVariable e ⊎ (at.mode ≡ K)) → HasInstance o at r e new → Busy at (form_of e)
instance_busy {o} {at} {r} h (on_core core core' rest m t) = busy_as at _ (form_of core) (form_applied rest core) (acts_busy (acts o at r core core' m))
instance_busy h (on_whole w t) = whole_busy h w

pub no_variable_instance : {o : Origins} {at : Spot} {r : Rule} {e new : TermTree} → IsVariable e → HasInstance o at r e new → ⊥
no_variable_instance {at = at} {e = e} v h = subst (Busy at) (variable_form e v) (instance_busy (inl v) h)

idle_written : (at : Spot) {e : TermTree} → IsWritten e → at.mode ≡ K → Busy at (form_of e) → ⊥
idle_written at written_literal k b = b
idle_written at (written_constructor c args h) k b = subst (Busy at) (form_applied args (con c)) b k
idle_written at (written_vector h) k b = b k

pub no_written_instance : {o : Origins} {at : Spot} {r : Rule} {e new : TermTree} → IsWritten e → at.mode ≡ K → HasInstance o at r e new → ⊥
no_written_instance {at = at} w k h = idle_written at w k (instance_busy (inr k) h)
