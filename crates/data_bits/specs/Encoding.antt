-- What the code does on the way to an encoding. The relation is `Encodes`.
use Rattle.std.specs.Prelude.{◌≡◌, ℕ, ◌+◌, ◌≤◌, Bool, List, ◌++◌, length, Some}
use Rattle.std.specs.List.{slice_get}
use Rattle.chw_base.specs.declared.limits.TheConstants.{DATA_BITS}
use Rattle.chw_types.specs.declared.declarations.ConDecl.{ConDecl}
use Rattle.chw_types.specs.declared.declarations.Data.{Data}
use Rattle.chw_types.specs.TypeTree.{TypeTree}
use Rattle.chw_types.specs.TypeMoves.{Substitution}
use Rattle.chw_layout.specs.Measured.{fits, tag_width, HasWidth, MeasuredFields}
use Rattle.chw_layout.specs.Encodes.{first_constructor}

-- bits of which this holds are added at the end
abbrev pub Adds : (List Bool → Type 0) → List Bool → List Bool → Type 0
Adds P old new = (bits : List Bool) × P bits × (new ≡ old ++ bits)

-- the type has a width
abbrev pub Fits : List Data → TypeTree → Type 0
Fits datas t = (w : ℕ) × HasWidth datas t w

-- these fields together have a width
pub record FieldsFit (datas : List Data) (fs : List TypeTree) (σ : Substitution) : Type 0 where
  pub width : ℕ
  pub measured : MeasuredFields datas fs σ (fits width)
  pub within : width ≤ DATA_BITS

-- the constructor of this number is that of this tag in the data type, with these fields and a tag of this width
pub record IsChosen (datas : List Data) (d n tag width : ℕ) (fields : List TypeTree) : Type 0 where
  pub it : Data
  pub c : ConDecl
  pub known : slice_get datas d ≡ Some it
  pub number : n ≡ first_constructor datas d + tag
  pub at : slice_get it.cons tag ≡ Some c
  pub are : fields ≡ c.fields
  pub tag_is : width ≡ tag_width (length it.cons)

-- the data type has a constructor of this number
pub record HasConstructor (datas : List Data) (d n : ℕ) : Type 0 where
  pub it : Data
  pub i : ℕ
  pub c : ConDecl
  pub known : slice_get datas d ≡ Some it
  pub number : n ≡ first_constructor datas d + i
  pub at : slice_get it.cons i ≡ Some c
