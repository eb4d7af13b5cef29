-- What an instance of a rule makes, for every rule but SPEC.
use Rattle.std.proofs.Common.{◌≡◌, [], ◌∷◌, refl, arith}
use Rattle.chw_terms.specs.declared.rule.Rule.{Rule}
use Rattle.chw_terms.specs.declared.rule.Rule.TheVariants.{TyBeta, Beta, AppLet, AppCase, CaseCon, CaseLet, CaseCase, Proj, PrimLet, PrimCase, Flat, Dead, Inline, Unfold, Unroll, Elem, Delta, ApPure, Eta, Spec, Anf}
use Rattle.chw_terms.specs.TermTree.{TermTree}
use Rattle.chw_typing.specs.Laws.{TypedIsSound}
use Rattle.chw_typing.specs.Scopes.{AreTermTypes}
use Rattle.chw_typing.proofs.FoundTyped.{found_is_type}
use Rattle.rewriting.specs.SceneLaws.{NoMadeKeepsType}
use Rattle.rewriting.specs.Origins.{Origins, origin_at, setting_at}
use Rattle.rewriting.specs.Spots.{Spot}
use Rattle.rewriting.specs.Calls.{OfWhole, spec_call, anf_call, anf_result}
use Rattle.rewriting.specs.Instances.{Makes, HasInstance, on_core, on_whole}
use Rattle.rewriting.specs.Names.{OfNames, unfold_global, unfold_made}
use Rattle.rewriting.specs.Operands.{OfOperands, anf}
use Rattle.rewriting.specs.Signals.{OfSignals, join, eta, spec_function}
use Rattle.rewriting.specs.Steps.{origins_in}
use Rattle.rule_types.specs.States.{OriginsHoldNoMade}
use Rattle.rule_types.proofs.NewState.{origins_hold_no_made}
use Rattle.act_rules.specs.RuleLaws.{HasOrigins, KeepsMeaning}
use Rattle.act_rules.specs.CaseLaws.{KeepsMeaningIn}
use Rattle.act_rules.specs.NameLaws.{OperandNameActs, ArgumentNameActs, ResultNameActs, UnfoldGlobalActs, UnfoldMadeActs, EtaFunctionActs}
use Rattle.act_rules.specs.SignalLaws.{JoinsAct}
use Rattle.act_rules.specs.PrimLaws.{PrimitivesAct}
use Rattle.act_rules.specs.StepLaws.{MadeActs, SpineActs}
use Rattle.act_runs.specs.States.{ActsWithOrigins, InstanceActs}
use Rattle.act_runs.proofs.States.{state_has_origins}

-- the laws of the rules
pub record RuleLaws : Type 0 where
  pub up_to_inline : MadeActs
  pub globals : UnfoldGlobalActs
  pub made_names : UnfoldMadeActs
  pub primitives : PrimitivesAct
  pub joins : JoinsAct
  pub eta_function : EtaFunctionActs
  pub operands : OperandNameActs
  pub arguments : ArgumentNameActs
  pub results : ResultNameActs
  pub spine : SpineActs

module _ (l : RuleLaws) (o : Origins) (h : HasOrigins o.program (setting_at o).made (origin_at o)) (alone : OriginsHoldNoMade o) (at : Spot) (g : AreTermTypes (setting_at o) [] at.vars) where
  -- what keeps its meaning acts so here
  here : (e' e : TermTree) → KeepsMeaningIn o.program e' e → ActsWithOrigins o at.vars e' e
  here e' e keeps u d = keeps (setting_at o).made (origin_at o) [] at.vars u h g d

  names_act : {r : Rule} {e f : TermTree} → OfNames o at r e f → ActsWithOrigins o at.vars f e
  names_act (unfold_global {d = d} {it = it} lets held) u c = l.globals o.program d it held (setting_at o).made (origin_at o) [] at.vars u h g c
  names_act (unfold_made {m = m} {it = it} lets held) u c = l.made_names o m it (setting_at o).made [] at.vars u held (alone m it held) h g c

  signals_act : {r : Rule} {e f : TermTree} → (r ≡ Spec → ⊥) → OfSignals o at r e f → ActsWithOrigins o at.vars f e
  signals_act other (join {e = e} {e' = f} circuit joins) u c = l.joins o at e f joins o.program (setting_at o).made (origin_at o) [] at.vars u h g c
  signals_act other (eta {d = d} {a = a} {b = b} {t = t} {r = r} {ts = ts} {g = f} {s = s} circuit lifted few) u c =
      l.eta_function o.program (setting_at o).made (origin_at o) [] at.vars d a b r u (t ∷ ts) f s h g (found_is_type lifted.has) c
  signals_act other (spec_function circuit lifted many number) u c = absurd (other refl)

  operands_act : {r : Rule} {e f : TermTree} → OfOperands o at r e f → KeepsMeaning f e
  operands_act (anf {e = e} {x = x} {path = path} {t = t} first found) = l.operands o at e x path t first.is.0

  core_acts : (r : Rule) (e f : TermTree) → (r ≡ Spec → ⊥) → Makes o at r e f → ActsWithOrigins o at.vars f e
  core_acts TyBeta e f other m = here f e (l.up_to_inline o at TyBeta e f (omega arith) m)
  core_acts Beta e f other m = here f e (l.up_to_inline o at Beta e f (omega arith) m)
  core_acts AppLet e f other m = here f e (l.up_to_inline o at AppLet e f (omega arith) m)
  core_acts AppCase e f other m = here f e (l.up_to_inline o at AppCase e f (omega arith) m)
  core_acts CaseCon e f other m = here f e (l.up_to_inline o at CaseCon e f (omega arith) m)
  core_acts CaseLet e f other m = here f e (l.up_to_inline o at CaseLet e f (omega arith) m)
  core_acts CaseCase e f other m = here f e (l.up_to_inline o at CaseCase e f (omega arith) m)
  core_acts Proj e f other m = here f e (l.up_to_inline o at Proj e f (omega arith) m)
  core_acts PrimLet e f other m = here f e (l.up_to_inline o at PrimLet e f (omega arith) m)
  core_acts PrimCase e f other m = here f e (l.up_to_inline o at PrimCase e f (omega arith) m)
  core_acts Flat e f other m = here f e (l.up_to_inline o at Flat e f (omega arith) m)
  core_acts Dead e f other m = here f e (l.up_to_inline o at Dead e f (omega arith) m)
  core_acts Inline e f other m = here f e (l.up_to_inline o at Inline e f (omega arith) m)
  core_acts Unfold e f other m = names_act m
  core_acts Unroll e f other m = here f e (l.primitives o at Unroll e f m o.program)
  core_acts Elem e f other m = here f e (l.primitives o at Elem e f m o.program)
  core_acts Delta e f other m = here f e (l.primitives o at Delta e f m o.program)
  core_acts ApPure e f other m = signals_act other m
  core_acts Eta e f other m = signals_act other m
  core_acts Spec e f other m = absurd (other refl)
  core_acts Anf e f other m = here f e (operands_act m o.program)

  whole_acts : {r : Rule} {e f : TermTree} → (r ≡ Spec → ⊥) → OfWhole o at r e f → KeepsMeaning f e
  whole_acts other (spec_call lets call number) = absurd (other refl)
  whole_acts other (anf_call {e = e} {x = x} {path = path} {t = t} first found) = l.arguments at e x path t first.is.0
  whole_acts other (anf_result {e = e} {t = t} lets result variable lt none found) = l.results t e

  instance_acts_at : (r : Rule) {e f : TermTree} → (r ≡ Spec → ⊥) → HasInstance o at r e f → ActsWithOrigins o at.vars f e
  instance_acts_at r other (on_core core core' rest m d) =
      l.spine o.program (setting_at o).made (origin_at o) [] at.vars core' core rest h g (core_acts r core core' other m)
  instance_acts_at r {e} {f} other (on_whole m d) = here f e (whole_acts other m o.program)

pub instance_acts : RuleLaws → TypedIsSound → NoMadeKeepsType → InstanceActs
instance_acts l law alone p state at r e f h g other instance =
    instance_acts_at l (origins_in p state) (state_has_origins law alone p state h) (origins_hold_no_made p state h) at g r other instance
