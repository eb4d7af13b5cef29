-- What is promised of constructors and their numbers.
use Rattle.std.specs.List.{slice_get}
use Rattle.std.specs.Prelude.{List, Some, ℕ, ◌+◌, ◌-◌, ◌≡◌}
use Rattle.chw_layout.specs.Encodes.{first_constructor}
use Rattle.chw_terms.specs.Constructors.{Constructor, con_at}
use Rattle.chw_types.specs.declared.declarations.Data.{Data}
use Rattle.layout_laws.specs.Numbering.{HasPlace, OneNumbering}

-- a constructor's place among those of its data type
pub record PlaceOf (datas : List Data) (c : ℕ) (it : Constructor) : Type 0 where
  pub in_datas : slice_get datas it.of ≡ Some it.it
  pub number : c ≡ first_constructor datas it.of + (c - first_constructor datas it.of)
  pub in_cons : slice_get it.it.cons (c - first_constructor datas it.of) ≡ Some it.decl

-- a constructor is one of the data type that it names
pub record IsConstructor (datas : List Data) (it : Constructor) : Type 0 where
  pub data_type : slice_get datas it.of ≡ Some it.it
  pub place : ℕ
  pub decl : slice_get it.it.cons place ≡ Some it.decl

-- facts on constructors and their numbers
pub record ConstructorFacts : Type 0 where
  -- the constructor of a number is one of the data type that it names
  pub is_constructor :
      (datas : List Data) (c : ℕ) (it : Constructor)
      → con_at datas c ≡ Some it → IsConstructor datas it
  -- it stands at a place there
  pub has_place :
      (datas : List Data) (c : ℕ) (k : Constructor)
      → con_at datas c ≡ Some k → HasPlace datas c k
  -- and the one at a place has the number of that place
  pub at_place :
      (datas : List Data) (c : ℕ) (k : Constructor)
      → HasPlace datas c k → con_at datas c ≡ Some k
  -- values number constructors as terms do
  pub one_numbering : OneNumbering
  -- a number is that of the first constructor of the data type, and a place
  pub place_of :
      (datas : List Data) (c : ℕ) (it : Constructor)
      → con_at datas c ≡ Some it → PlaceOf datas c it
