-- The first case of a program that leaves something out.
use Rattle.std.specs.Prelude.{◌≡◌, ℕ, ◌<◌, Some}
use Rattle.std.specs.List.{slice_get}
use Rattle.chw_terms.specs.declared.program.Def.{Def}
use Rattle.chw_terms.specs.declared.program.Program.{Program}
use Rattle.chw_check.specs.declared.cases.lacks.Incomplete.{Incomplete}
use Rattle.chw_check.specs.declared.cases.lacks.Sought.{Sought}
use Rattle.chw_check.specs.declared.cases.lacks.Sought.TheVariants.{Constructors, Defaults}
use Rattle.chw_check.specs.FirstCase.{KeepsAll, FirstIn}

-- no case of the program leaves out what is sought
abbrev pub Keep : Program → Sought → Type 0
Keep p sought = (d : ℕ) (it : Def) → slice_get p.defs d ≡ Some it → KeepsAll p.datas sought it.body

-- no case of the program leaves out a constructor or a default
abbrev pub AllKeep : Program → Type 0
AllKeep p = (sought : Sought) → Keep p sought

-- the first definition with a case that leaves out what is sought, and what its first such case
-- leaves out
pub record IsFirstOf (p : Program) (sought : Sought) (i : Incomplete) : Type 0 where
  pub it : Def
  pub is_it : slice_get p.defs i.«def».number ≡ Some it
  pub first : FirstIn p.datas sought it.body i.lacks
  pub earlier : (d : ℕ) (other : Def) → d < i.«def».number
      → slice_get p.defs d ≡ Some other → KeepsAll p.datas sought other.body

-- the first of the program: constructors are looked for in the whole program before defaults
pub data IsFirstIncomplete (p : Program) (i : Incomplete) : Type 0 where
  of_constructors : IsFirstOf p Constructors i → IsFirstIncomplete p i
  of_defaults : Keep p Constructors → IsFirstOf p Defaults i → IsFirstIncomplete p i
