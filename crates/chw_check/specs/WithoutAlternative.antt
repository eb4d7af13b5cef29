-- The constructors of a data type that have no alternative.
use Rattle.std.specs.Prelude.{◌≡◌, ℕ, ◌<◌, List, Some}
use Rattle.chw_types.specs.declared.declarations.Data.{Data}
use Rattle.chw_terms.specs.TermTree.{Alts}
use Rattle.chw_terms.specs.Constructors.{Constructor, con_at}
use Rattle.chw_typing.specs.Alternatives.{IsFor}

-- each constructor of the data type that the constructor c is of has an alternative
abbrev pub NoneMissing : List Data → ℕ → Alts → Type 0
NoneMissing datas c alts =
    (it : Constructor) → con_at datas c ≡ Some it
    → (b : ℕ) (other : Constructor) → con_at datas b ≡ Some other → other.of ≡ it.of → IsFor b alts

-- the first of them that has none
pub record IsMissing (datas : List Data) (c : ℕ) (alts : Alts) (d : ℕ) : Type 0 where
  pub it : Constructor
  pub is : con_at datas c ≡ Some it
  pub lacking : Constructor
  pub at : con_at datas d ≡ Some lacking
  pub same : lacking.of ≡ it.of
  pub not_for : IsFor d alts → ⊥
  pub earlier : (b : ℕ) (other : Constructor) → b < d
      → con_at datas b ≡ Some other → other.of ≡ it.of → IsFor b alts
