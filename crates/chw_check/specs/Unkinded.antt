-- The first declaration whose types have no kinds: data types stand before definitions.
use Rattle.std.specs.Prelude.{◌≡◌, ◌<◌, ℕ, Some}
use Rattle.std.specs.List.{slice_get}
use Rattle.chw_base.specs.declared.index.DataId.{DataId}
use Rattle.chw_base.specs.declared.index.DefId.{DefId}
use Rattle.chw_terms.specs.declared.program.Def.{Def}
use Rattle.chw_terms.specs.declared.program.Program.{Program}
use Rattle.chw_types.specs.declared.declarations.Data.{Data}
use Rattle.chw_typing.specs.Programs.{setting_of}
use Rattle.chw_check.specs.Fits.{DataFits, DefFits}
use Rattle.chw_check.specs.declared.kinds.first.Unkinded.{Unkinded}
use Rattle.chw_check.specs.declared.kinds.first.Unkinded.TheVariants.{OfData, OfDef}

pub data IsFirstUnkinded (p : Program) : Unkinded → Type 0 where
  of_data : (d : DataId) (it : Data) → slice_get p.datas d.number ≡ Some it
      → (DataFits (setting_of p) it → ⊥)
      → ((c : ℕ) (other : Data) → c < d.number
      → slice_get p.datas c ≡ Some other → DataFits (setting_of p) other)
      → IsFirstUnkinded p (OfData d)
  of_def : (d : DefId) (it : Def) → slice_get p.defs d.number ≡ Some it
      → (DefFits (setting_of p) it → ⊥)
      → ((c : ℕ) (other : Data) → slice_get p.datas c ≡ Some other → DataFits (setting_of p) other)
      → ((c : ℕ) (other : Def) → c < d.number
      → slice_get p.defs c ≡ Some other → DefFits (setting_of p) other)
      → IsFirstUnkinded p (OfDef d)
