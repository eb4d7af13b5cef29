-- Programs whose definitions have the types that are declared.
use Rattle.std.specs.Prelude.{◌≡◌, ℕ, ◌<◌, Some}
use Rattle.std.specs.List.{slice_get}
use Rattle.chw_terms.specs.declared.program.Def.{Def}
use Rattle.chw_terms.specs.declared.program.Program.{Program}
use Rattle.chw_typing.specs.Programs.{HasItsType}

-- each body has the declared type
abbrev pub AllHaveTheirTypes : Program → Type 0
AllHaveTheirTypes p = (d : ℕ) (it : Def) → slice_get p.defs d ≡ Some it → HasItsType p it

-- the first definition whose body hasn't the declared type
pub record IsFirstUntyped (p : Program) (it : Def) : Type 0 where
  pub at : ℕ
  pub is_it : slice_get p.defs at ≡ Some it
  pub untyped : HasItsType p it → ⊥
  pub earlier : (c : ℕ) (other : Def) → c < at
      → slice_get p.defs c ≡ Some other → HasItsType p other
