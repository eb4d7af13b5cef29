-- The first fault of a program that isn't typed.
use Rattle.std.specs.Prelude.{◌≡◌, Some}
use Rattle.std.specs.List.{slice_get}
use Rattle.chw_check.specs.Incomplete.{AllKeep, IsFirstIncomplete}
use Rattle.chw_check.specs.declared.cases.lacks.Incomplete.{Incomplete}
use Rattle.chw_check.specs.declared.cases.lacks.Lacks.TheVariants.{Constructor, Default}
use Rattle.chw_base.specs.declared.index.ConId.{ConId}
use Rattle.chw_base.specs.declared.index.DataId.{DataId}
use Rattle.chw_base.specs.declared.index.DefId.{DefId}
use Rattle.chw_check.specs.Bodies.{AllHaveTheirTypes, IsFirstUntyped}
use Rattle.chw_check.specs.Tops.{LeadsToNamedPorts}
use Rattle.chw_check.specs.declared.fault.TypeFault.{TypeFault}
use Rattle.chw_check.specs.declared.fault.TypeFault.TheVariants.{Kind, Typing, Missing}
use Rattle.chw_check.specs.declared.fault.TypeFault.TheVariants.{NoDefault, NotPorts}
use Rattle.chw_terms.specs.Constructors.{Constructor as Declared, con_at}
use Rattle.chw_terms.specs.declared.program.Def.{Def}
use Rattle.chw_terms.specs.declared.program.Program.{Program}
use Rattle.type_ports.specs.TypeText.{type_text}
use Rattle.chw_types.specs.declared.declarations.Data.{Data}
use Rattle.chw_check.specs.Fits.{AllDeclarationsFit}
use Rattle.chw_check.specs.Unkinded.{IsFirstUnkinded}
use Rattle.chw_check.specs.declared.kinds.first.Unkinded.TheVariants.{OfData, OfDef}

-- the first fault: each is looked for in the whole program before the next
pub data IsTypeFault (p : Program) : TypeFault → Type 0 where
  kind_of_data : (d : DataId) (it : Data) → IsFirstUnkinded p (OfData d)
      → slice_get p.datas d.number ≡ Some it → IsTypeFault p (Kind it.name)
  kind_of_def : (d : DefId) (it : Def) → IsFirstUnkinded p (OfDef d)
      → slice_get p.defs d.number ≡ Some it → IsTypeFault p (Kind it.name)
  typing : (it : Def) → AllDeclarationsFit p → IsFirstUntyped p it → IsTypeFault p (Typing it.name)
  missing : (i : Incomplete) (c : ConId) (it : Def) (con : Declared)
      → AllDeclarationsFit p → AllHaveTheirTypes p → IsFirstIncomplete p i
      → i.lacks ≡ Constructor c → slice_get p.defs i.«def».number ≡ Some it
      → con_at p.datas c.number ≡ Some con → IsTypeFault p (Missing it.name con.decl.name)
  no_default : (i : Incomplete) (it : Def)
      → AllDeclarationsFit p → AllHaveTheirTypes p → IsFirstIncomplete p i
      → i.lacks ≡ Default → slice_get p.defs i.«def».number ≡ Some it
      → IsTypeFault p (NoDefault it.name)
  not_ports : (it : Def) → AllDeclarationsFit p → AllHaveTheirTypes p → AllKeep p
      → slice_get p.defs p.top.«def».number ≡ Some it → (LeadsToNamedPorts p it → ⊥)
      → IsTypeFault p (NotPorts (type_text p.datas p.domains it.ty))
