-- A program that is tidy and typed has no fault.
use Rattle.std.proofs.Common.{◌≡◌, subst}
use Rattle.chw_check.proofs.Complete.{kept}
use Rattle.chw_check.proofs.FittingPrograms.{typed_program_fits}
use Rattle.chw_check.proofs.NotKept.{not_kept}
use Rattle.chw_check.specs.Faults.{IsTypeFault, kind_of_data, kind_of_def, typing, missing, no_default, not_ports}
use Rattle.chw_check.specs.Incomplete.{IsFirstOf, IsFirstIncomplete, of_constructors, of_defaults}
use Rattle.chw_check.specs.Tops.{LeadsToNamedPorts}
use Rattle.chw_check.specs.Unkinded.{IsFirstUnkinded, of_data, of_def}
use Rattle.chw_check.specs.declared.cases.lacks.Incomplete.{Incomplete}
use Rattle.chw_check.specs.declared.cases.lacks.Sought.{Sought}
use Rattle.chw_check.specs.declared.cases.lacks.Sought.TheVariants.{Constructors, Defaults}
use Rattle.chw_check.specs.declared.fault.TypeFault.{TypeFault}
use Rattle.chw_check.specs.declared.kinds.first.Unkinded.{Unkinded}
use Rattle.chw_terms.specs.declared.program.Def.{Def}
use Rattle.chw_terms.specs.declared.program.Program.{Program}
use Rattle.chw_typing.specs.Programs.{IsTyped}

module _ (p : Program) (typed : IsTyped p) where
  none_unkinded : {u : Unkinded} → IsFirstUnkinded p u → ⊥
  none_unkinded (of_data d it is unfit earlier) = unfit ((typed_program_fits p typed).datas d.number it is)
  none_unkinded (of_def d it is unfit datas earlier) = unfit ((typed_program_fits p typed).defs d.number it is)

  none_of : (sought : Sought) (i : Incomplete) → IsFirstOf p sought i → ⊥
  none_of sought i first =
      let has = typed.bodies i.«def».number first.it first.is_it in
      let complete = typed.complete i.«def».number first.it first.is_it in
      not_kept p.datas sought first.it.body i.lacks first.first (kept sought has.has complete)

  none_incomplete : (i : Incomplete) → IsFirstIncomplete p i → ⊥
  none_incomplete i (of_constructors first) = none_of Constructors i first
  none_incomplete i (of_defaults keep first) = none_of Defaults i first

  pub no_fault : {fault : TypeFault} → IsTypeFault p fault → ⊥
  no_fault (kind_of_data d it first is) = none_unkinded first
  no_fault (kind_of_def d it first is) = none_unkinded first
  no_fault (typing it fits first) = first.untyped (typed.bodies first.at it first.is_it)
  no_fault (missing i c it con fits have first lacks is is_con) = none_incomplete i first
  no_fault (no_default i it fits have first lacks is) = none_incomplete i first
  no_fault (not_ports it fits have all is leads) =
      let top = typed.top in
      let same : top.0 ≡ it = cc (top.1, is) in
      leads (subst (λ (d : Def). LeadsToNamedPorts p d) same top.2)
