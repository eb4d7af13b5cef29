-- What checking the type of the top tells of a program.
use Rattle.std.proofs.Common.{◌≡◌, ℕ, List, length, get_or, Some, sym, ap, ◌∙◌, subst}
use Rattle.std.specs.List.{slice_get}
use Rattle.std.proofs.lemmas.Option.{slice_get-get_or}
use Rattle.chw_check.specs.Incomplete.{AllKeep}
use Rattle.chw_check.specs.Bodies.{AllHaveTheirTypes}
use Rattle.chw_check.specs.Faults.{IsTypeFault, not_ports}
use Rattle.chw_check.specs.Tops.{LeadsToNamedPorts, TopIsOfPorts}
use Rattle.chw_check.specs.declared.fault.TypeFault.TheVariants.{NotPorts}
use Rattle.chw_terms.specs.Tidy.{IsTidy}
use Rattle.chw_terms.specs.declared.program.Def.{Def}
use Rattle.chw_terms.specs.declared.program.Program.{Program}
use Rattle.type_ports.specs.TypeText.{type_text}
use Rattle.chw_types.specs.declared.declarations.Data.{Data}
use Rattle.chw_typing.specs.Programs.{LeadsToPort}
use Rattle.chw_check.specs.Fits.{AllDeclarationsFit}

module _ (p : Program) (datas : List Data) (defs : List Def) (other : Def) (inputs outputs : ℕ) (tidy : IsTidy p) (datas_are : datas ≡ p.datas) (defs_are : defs ≡ p.defs)
    (inputs_are : inputs ≡ length p.top.inputs) (outputs_are : outputs ≡ length p.top.outputs) where
  -- the definition that the top names
  abbrev it : Def
  it = get_or defs p.top.«def».number other

  top_is : slice_get p.defs p.top.«def».number ≡ Some it
  top_is = slice_get-get_or p.defs p.top.«def».number other tidy.top_held ∙ ap (λ (ds : List Def). Some (get_or ds p.top.«def».number other)) (sym defs_are)

  as_named : LeadsToPort datas it.ty inputs outputs ≡ LeadsToNamedPorts p it
  as_named = λ i. LeadsToPort (datas_are i) it.ty (inputs_are i) (outputs_are i)

  pub top_led : LeadsToPort datas it.ty inputs outputs → TopIsOfPorts p
  top_led h = (it, top_is, coe 0 1 (i. as_named i) h)

  pub top_told : (text : List ℕ) (domains : List (List ℕ)) → domains ≡ p.domains → text ≡ type_text datas domains it.ty → AllDeclarationsFit p → AllHaveTheirTypes p → AllKeep p
      → (LeadsToPort datas it.ty inputs outputs → ⊥) → IsTypeFault p (NotPorts text)
  top_told text domains domains_are is fit have keep not_led =
      let text_is : text ≡ type_text p.datas p.domains it.ty = is ∙ (λ i. type_text (datas_are i) (domains_are i) it.ty) in
      subst (λ (t : List ℕ). IsTypeFault p (NotPorts t)) (sym text_is)
      (not_ports it fit have keep top_is (λ h. not_led (coe 1 0 (i. as_named i) h)))
