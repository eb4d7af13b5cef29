-- The first declaration that doesn't fit, where those before it do.
use Rattle.std.proofs.Common.{◌≡◌, ℕ, sym, subst, arith}
use Rattle.std.specs.List.{slice_get}
use Rattle.std.specs.Prelude.{Some}
use Rattle.chw_base.specs.declared.index.DataId.{DataId}
use Rattle.chw_base.specs.declared.index.DefId.{DefId}
use Rattle.chw_terms.specs.declared.program.Def.{Def}
use Rattle.chw_terms.specs.declared.program.Program.{Program}
use Rattle.chw_types.specs.declared.declarations.Data.{Data}
use Rattle.chw_typing.specs.Programs.{setting_of}
use Rattle.chw_check.specs.Each.{Each}
use Rattle.chw_check.specs.Fits.{AllDeclarationsFit, DataFits, DefFits}
use Rattle.chw_check.specs.Unkinded.{IsFirstUnkinded, of_data, of_def}
use Rattle.chw_check.specs.declared.kinds.first.Unkinded.TheVariants.{OfData, OfDef}
use Rattle.chw_check.proofs.EachItem.{EachBefore}

pub data_found : (p : Program) (d : DataId) (i : ℕ) (it : Data) → d.number ≡ i → slice_get p.datas i ≡ Some it → (DataFits (setting_of p) it → ⊥) → EachBefore (DataFits (setting_of p)) p.datas i → IsFirstUnkinded p (OfData d)
data_found p d i it number here never before =
    of_data d it (subst (λ n. slice_get p.datas n ≡ Some it) (sym number) here) never (λ n other less e. before n other (omega arith) e)

pub def_found : (p : Program) (d : DefId) (i : ℕ) (it : Def) → d.number ≡ i → slice_get p.defs i ≡ Some it → (DefFits (setting_of p) it → ⊥) → EachBefore (DefFits (setting_of p)) p.defs i → Each (DataFits (setting_of p)) p.datas → IsFirstUnkinded p (OfDef d)
def_found p d i it number here never before datas =
    of_def d it (subst (λ n. slice_get p.defs n ≡ Some it) (sym number) here) never datas (λ n other less e. before n other (omega arith) e)

pub all_fit : {p : Program} → Each (DataFits (setting_of p)) p.datas → Each (DefFits (setting_of p)) p.defs → AllDeclarationsFit p
all_fit datas defs = record { datas = datas; defs = defs }
