-- On what rules act: by the head of the term, and by its arguments.
use Rattle.std.proofs.Common.{◌≡◌, ◌⊎◌, inl, inr, refl, ℕ, List, []}
use Rattle.chw_prims.specs.declared.prim.Primitive.{Primitive as Prim}
use Rattle.chw_terms.specs.declared.rule.Rule.{Rule}
use Rattle.chw_terms.specs.declared.rule.Rule.TheVariants.{TyBeta, Beta, AppLet, AppCase, CaseCon, CaseLet, CaseCase, Proj, PrimLet, PrimCase, Flat, Dead, Inline, Unfold, Unroll, Elem, Delta, ApPure, Eta, Spec, Anf}
use Rattle.chw_terms.specs.declared.term.Arg.{Arg}
use Rattle.chw_terms.specs.TermTree.{TermTree, prim, case_of, letrec}
use Rattle.chw_terms.specs.TermView.{applied}
use Rattle.rewriting.specs.Active.{Demands}
use Rattle.rewriting.specs.Cases.{OfCases}
use Rattle.rewriting.specs.Demanded.{OfDemanded, prim_let, prim_case}
use Rattle.rewriting.specs.Functions.{OfFunctions, ty_beta, beta, app_let, app_let_type, app_case, app_case_type}
use Rattle.rewriting.specs.Instances.{Makes}
use Rattle.rewriting.specs.Lets.{OfLets, flat_side, flat_body, dead, inline}
use Rattle.rewriting.specs.Names.{OfNames, unfold_global, unfold_made}
use Rattle.rewriting.specs.Operands.{OfOperands, anf, StandsAt, NeedsName}
use Rattle.rewriting.specs.Origins.{Origins}
use Rattle.rewriting.specs.Primitives.{OfPrimitives}
use Rattle.rewriting.specs.Signals.{OfSignals}
use Rattle.rewriting.specs.Spots.{Spot, HasLets}
use Rattle.rewriting.proofs.Spines.{args_of}
use Rattle.quiet_sides.proofs.Forms.{a_name, a_binder, a_case, form_of}

-- a letrec or a case moves out of an argument
abbrev pub Moves : TermTree → Type 0
Moves x = (form_of x ≡ a_binder) ⊎ (form_of x ≡ a_case)

-- what a rule acts on
pub data Acts (o : Origins) (at : Spot) (e : TermTree) : Type 0 where
  on_binder : form_of e ≡ a_binder → Acts o at e
  on_applied_case : form_of e ≡ a_case → (args_of e ≡ [] → ⊥) → Acts o at e
  on_case : {r : Rule} {new : TermTree} → OfCases o at r e new → Acts o at e
  on_name : form_of e ≡ a_name → (HasLets at.mode → ⊥) → Acts o at e
  on_demanded : (p : Prim) (args : List Arg) (i : ℕ) (x : TermTree) → e ≡ applied (prim p) args → Demands o at p args i x → Moves x → Acts o at e
  on_prim : {r : Rule} {new : TermTree} → OfPrimitives o at r e new → Acts o at e
  on_signals : {r : Rule} {new : TermTree} → OfSignals o at r e new → Acts o at e
  on_operand : {path : List ℕ} {x : TermTree} → StandsAt o at e path x → NeedsName o at x → Acts o at e

of_functions : {o : Origins} {at : Spot} {r : Rule} {e new : TermTree} → OfFunctions o at r e new → Acts o at e
of_functions ty_beta = on_binder refl
of_functions beta = on_binder refl
of_functions app_let = on_binder refl
of_functions app_let_type = on_binder refl
of_functions (app_case f) = on_applied_case refl (λ q. absurd cc)
of_functions app_case_type = on_applied_case refl (λ q. absurd cc)

of_demanded : {o : Origins} {at : Spot} {r : Rule} {e new : TermTree} → OfDemanded o at r e new → Acts o at e
of_demanded (prim_let {p = p} {args = args} {i = i} {g = g} {e = e} n d f) = on_demanded p args i (letrec g e) refl d (inl refl)
of_demanded (prim_case {p = p} {args = args} {i = i} {e = e} {alts = alts} n d f g) = on_demanded p args i (case_of e alts) refl d (inr refl)

of_lets : {o : Origins} {at : Spot} {r : Rule} {e new : TermTree} → OfLets o at r e new → Acts o at e
of_lets (flat_side front t cs x back m n) = on_binder refl
of_lets (flat_body m n) = on_binder refl
of_lets (dead m k d) = on_binder refl
of_lets (inline front t x back m n d s) = on_binder refl

of_names : {o : Origins} {at : Spot} {r : Rule} {e new : TermTree} → OfNames o at r e new → Acts o at e
of_names (unfold_global m i) = on_name refl m
of_names (unfold_made m i) = on_name refl m

of_operands : {o : Origins} {at : Spot} {r : Rule} {e new : TermTree} → OfOperands o at r e new → Acts o at e
of_operands (anf f t) = on_operand f.is.0 f.is.1

pub acts : (o : Origins) (at : Spot) (r : Rule) (e new : TermTree) → Makes o at r e new → Acts o at e
acts o at TyBeta e new d = of_functions d
acts o at Beta e new d = of_functions d
acts o at AppLet e new d = of_functions d
acts o at AppCase e new d = of_functions d
acts o at CaseCon e new d = on_case d
acts o at CaseLet e new d = on_case d
acts o at CaseCase e new d = on_case d
acts o at Proj e new d = on_case d
acts o at PrimLet e new d = of_demanded d
acts o at PrimCase e new d = of_demanded d
acts o at Flat e new d = of_lets d
acts o at Dead e new d = of_lets d
acts o at Inline e new d = of_lets d
acts o at Unfold e new d = of_names d
acts o at Unroll e new d = on_prim d
acts o at Elem e new d = on_prim d
acts o at Delta e new d = on_prim d
acts o at ApPure e new d = on_signals d
acts o at Eta e new d = on_signals d
acts o at Spec e new d = on_signals d
acts o at Anf e new d = of_operands d
