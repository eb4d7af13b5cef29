-- The instances of all rules but that of made definitions keep types and complete terms.
use Rattle.std.proofs.Common.{◌∷◌, ◌≡◌, List, [], map, refl, ℕ}
use Rattle.chw_types.specs.declared.declarations.Data.{Data}
use Rattle.chw_terms.specs.FreeVariables.{free_in}
use Rattle.chw_terms.specs.TermTree.{TermTree, made, var}
use Rattle.chw_terms.specs.declared.term.Arg.TheVariants.{OfTerm}
use Rattle.chw_terms.specs.declared.rule.Rule.{Rule}
use Rattle.chw_terms.specs.declared.rule.Rule.TheVariants.{Anf, ApPure, AppCase, AppLet, Beta, CaseCase, CaseCon, CaseLet, Dead, Delta, Elem, Eta, Flat, Inline, PrimCase, PrimLet, Proj, Spec, TyBeta, Unfold, Unroll}
use Rattle.chw_typing.specs.Programs.{IsComplete}
use Rattle.chw_typing.proofs.TypedSpines.{head_changed}
use Rattle.rewriting.specs.Origins.{Origins, setting_at}
use Rattle.rewriting.specs.Spots.{Spot}
use Rattle.rewriting.specs.Calls.{OfWhole, anf_call, anf_result, spec_call}
use Rattle.rewriting.specs.Instances.{HasInstance, Makes, on_core, on_whole}
use Rattle.rule_types.proofs.Cases.{cases_keep}
use Rattle.rule_types.proofs.CasesComplete.{cases_keep_complete}
use Rattle.rule_types.proofs.Complete.{ArgsComplete, applied_complete, core_complete}
use Rattle.rule_types.proofs.Demanded.{demanded_keep, demanded_keep_complete}
use Rattle.rule_types.proofs.Functions.{functions_keep, functions_keep_complete}
use Rattle.rule_types.proofs.Lets.{lets_keep}
use Rattle.rule_types.proofs.LetsComplete.{lets_keep_complete}
use Rattle.rule_types.proofs.Names.{names_keep, names_keep_complete}
use Rattle.rule_types.proofs.Operands.{operands_keep, operands_keep_complete, wholes_keep, wholes_keep_complete}
use Rattle.rule_types.proofs.Primitives.{primitives_keep}
use Rattle.rule_types.proofs.PrimitivesComplete.{primitives_keep_complete}
use Rattle.rule_types.proofs.Signals.{signals_keep}
use Rattle.rule_types.proofs.SignalsComplete.{signals_keep_complete}
use Rattle.rule_types.specs.Laws.{AreTypedOrigins, IsTypedPlace, KeepsType}

pub makes_keep : (o : Origins) (at : Spot) (r : Rule) {e e' : TermTree} → AreTypedOrigins o → IsTypedPlace o at → Makes o at r e e' → (r ≡ Spec → ⊥) → KeepsType o at e e'
makes_keep o at TyBeta w h m other t d = functions_keep o at h m t d
makes_keep o at Beta w h m other t d = functions_keep o at h m t d
makes_keep o at AppLet w h m other t d = functions_keep o at h m t d
makes_keep o at AppCase w h m other t d = functions_keep o at h m t d
makes_keep o at CaseCon w h m other t d = cases_keep o at h m t d
makes_keep o at CaseLet w h m other t d = cases_keep o at h m t d
makes_keep o at CaseCase w h m other t d = cases_keep o at h m t d
makes_keep o at Proj w h m other t d = cases_keep o at h m t d
makes_keep o at PrimLet w h m other t d = demanded_keep o at h m t d
makes_keep o at PrimCase w h m other t d = demanded_keep o at h m t d
makes_keep o at Flat w h m other t d = lets_keep o at h m t d
makes_keep o at Dead w h m other t d = lets_keep o at h m t d
makes_keep o at Inline w h m other t d = lets_keep o at h m t d
makes_keep o at Unfold w h m other t d = names_keep o at w h m t d
makes_keep o at Unroll w h m other t d = primitives_keep o at h m t d
makes_keep o at Elem w h m other t d = primitives_keep o at h m t d
makes_keep o at Delta w h m other t d = primitives_keep o at h m t d
makes_keep o at ApPure w h m other t d = signals_keep o at h m other t d
makes_keep o at Eta w h m other t d = signals_keep o at h m other t d
makes_keep o at Spec w h m other t d = absurd (other refl)
makes_keep o at Anf w h m other t d = operands_keep o at h m t d

pub makes_keep_complete : (o : Origins) (at : Spot) (r : Rule) (e e' : TermTree) → AreTypedOrigins o → IsTypedPlace o at → Makes o at r e e' → IsComplete o.program.datas e → IsComplete o.program.datas e'
makes_keep_complete o at TyBeta e e' w h m f = functions_keep_complete o at o.program.datas m f
makes_keep_complete o at Beta e e' w h m f = functions_keep_complete o at o.program.datas m f
makes_keep_complete o at AppLet e e' w h m f = functions_keep_complete o at o.program.datas m f
makes_keep_complete o at AppCase e e' w h m f = functions_keep_complete o at o.program.datas m f
makes_keep_complete o at CaseCon e e' w h m f = cases_keep_complete o at m f
makes_keep_complete o at CaseLet e e' w h m f = cases_keep_complete o at m f
makes_keep_complete o at CaseCase e e' w h m f = cases_keep_complete o at m f
makes_keep_complete o at Proj e e' w h m f = cases_keep_complete o at m f
makes_keep_complete o at PrimLet e e' w h m f = demanded_keep_complete o at m f
makes_keep_complete o at PrimCase e e' w h m f = demanded_keep_complete o at m f
makes_keep_complete o at Flat e e' w h m f = lets_keep_complete o at m f
makes_keep_complete o at Dead e e' w h m f = lets_keep_complete o at m f
makes_keep_complete o at Inline e e' w h m f = lets_keep_complete o at m f
makes_keep_complete o at Unfold e e' w h m f = names_keep_complete o at w m f
makes_keep_complete o at Unroll e e' w h m f = primitives_keep_complete o at h m f
makes_keep_complete o at Elem e e' w h m f = primitives_keep_complete o at h m f
makes_keep_complete o at Delta e e' w h m f = primitives_keep_complete o at h m f
makes_keep_complete o at ApPure e e' w h m f = signals_keep_complete o at m f
makes_keep_complete o at Eta e e' w h m f = signals_keep_complete o at m f
makes_keep_complete o at Spec e e' w h m f = signals_keep_complete o at m f
makes_keep_complete o at Anf e e' w h m f = operands_keep_complete o at m f

whole_keeps : (o : Origins) (at : Spot) {r : Rule} {e e' : TermTree} → IsTypedPlace o at → OfWhole o at r e e' → (r ≡ Spec → ⊥) → KeepsType o at e e'
whole_keeps o at h (spec_call lets call number) other t d = absurd (other refl)
whole_keeps o at h (anf_call first finds) other t d = wholes_keep o at h (anf_call first finds) t d
whole_keeps o at h (anf_result lets result not_variable not_let none finds) other t d = wholes_keep o at h (anf_result lets result not_variable not_let none finds) t d

-- the names of made definitions on variables are complete
variables_given : (datas : List Data) (xs : List ℕ) → ArgsComplete datas (map (λ x. OfTerm (var x)) xs)
variables_given datas [] = tt
variables_given datas (x ∷ xs) = (tt, variables_given datas xs)

whole_keeps_complete : (o : Origins) (at : Spot) {r : Rule} {e e' : TermTree} → OfWhole o at r e e' → IsComplete o.program.datas e → IsComplete o.program.datas e'
whole_keeps_complete o at (spec_call {e = e} {m = m} lets call number) f = applied_complete o.program.datas (made m) (map (λ x. OfTerm (var x)) (free_in e)) tt (variables_given o.program.datas (free_in e))
whole_keeps_complete o at (anf_call first finds) f = wholes_keep_complete o at (anf_call first finds) f
whole_keeps_complete o at (anf_result lets result not_variable not_let none finds) f = wholes_keep_complete o at (anf_result lets result not_variable not_let none finds) f

pub instances_keep : (o : Origins) (at : Spot) {r : Rule} {e e' : TermTree} → AreTypedOrigins o → IsTypedPlace o at → HasInstance o at r e e' → (r ≡ Spec → ⊥) → KeepsType o at e e'
instances_keep o at {r = r} w h (on_core core core' rest m typed) other t d = head_changed (setting_at o) [] at.vars core core' rest t h.sound h.vars (λ u f. makes_keep o at r w h m other u f) d
instances_keep o at w h (on_whole whole typed) other t d = whole_keeps o at h whole other t d

pub instances_keep_complete : (o : Origins) (at : Spot) {r : Rule} {e e' : TermTree} → AreTypedOrigins o → IsTypedPlace o at → HasInstance o at r e e' → IsComplete o.program.datas e → IsComplete o.program.datas e'
instances_keep_complete o at {r = r} w h (on_core core core' rest m typed) f = core_complete o.program.datas core core' rest (λ k. makes_keep_complete o at r core core' w h m k) f
instances_keep_complete o at w h (on_whole whole typed) f = whole_keeps_complete o at whole f
