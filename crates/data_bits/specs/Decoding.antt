-- What bits say of the value that they are.
use Rattle.std.specs.Prelude.{◌≡◌, ℕ, ◌≤◌, Bool, List, length}
use Rattle.chw_base.specs.declared.limits.TheConstants.{DATA_BITS}
use Rattle.chw_types.specs.declared.declarations.Data.{Data}
use Rattle.chw_types.specs.TypeTree.{TypeTree}
use Rattle.chw_types.specs.TypeMoves.{Substitution}
use Rattle.chw_layout.specs.Datum.{Datums}
use Rattle.chw_layout.specs.Measured.{fits, MeasuredFields}
use Rattle.chw_layout.specs.Encodes.{count_of, filled, EncodesElements, EncodesFields}

-- so many values of the type have these bits, one after the other
pub record IsRow (datas : List Data) (t : TypeTree) (n : ℕ) (bits : List Bool) (vs : Datums) : Type 0 where
  pub many : count_of vs ≡ n
  pub encoded : EncodesElements datas t vs bits

-- values of these fields have these bits, up to zeros after them
pub record ArePadded (datas : List Data) (fs : List TypeTree) (σ : Substitution) (all : List Bool) (vs : Datums) : Type 0 where
  pub bits : List Bool
  pub encoded : EncodesFields datas fs σ vs bits
  pub is : all ≡ filled (length all) bits

-- these fields together have a width, at most this one
pub record FieldsWithin (datas : List Data) (fs : List TypeTree) (σ : Substitution) (most : ℕ) : Type 0 where
  pub width : ℕ
  pub measured : MeasuredFields datas fs σ (fits width)
  pub within : width ≤ most
  pub small : most ≤ DATA_BITS
