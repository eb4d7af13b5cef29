-- The numbers of constructors.
use Rattle.std.specs.Prelude.{◌≡◌, ◌↔◌, ℕ, ◌+◌, List, Some}
use Rattle.std.specs.List.{slice_get}
use Rattle.chw_types.specs.declared.declarations.Data.{Data}
use Rattle.chw_terms.specs.Constructors.{Constructor, con_at, first_con}
use Rattle.chw_layout.specs.Encodes.{first_constructor}

-- the constructor stands at a place of its data type, and its number comes as far behind the first
-- constructor of that data type
pub record HasPlace (datas : List Data) (c : ℕ) (k : Constructor) : Type 0 where
  pub place : ℕ
  pub in_datas : slice_get datas k.of ≡ Some k.it
  pub in_cons : slice_get k.it.cons place ≡ Some k.decl
  pub number : c ≡ first_con datas k.of + place

-- exactly the constructors that have a place have a number
abbrev pub ConstructorsByPlace : Type 0
ConstructorsByPlace =
    (datas : List Data) (c : ℕ) (k : Constructor) → (con_at datas c ≡ Some k ↔ HasPlace datas c k)

-- values name constructors by the numbers by which terms do
abbrev pub OneNumbering : Type 0
OneNumbering = (datas : List Data) (d : ℕ) → first_constructor datas d ≡ first_con datas d
