-- The alternatives of a case: which stand beside each other, and when they are all that is needed.
use Rattle.std.specs.Prelude.{◌≡◌, ℕ, List, Some, ◌⊎◌}
use Rattle.chw_types.specs.declared.declarations.Data.{Data}
use Rattle.chw_terms.specs.declared.term.Pattern.{Pattern}
use Rattle.chw_terms.specs.declared.term.Pattern.TheVariants.{OfCon, OfLit, Default}
use Rattle.chw_terms.specs.TermTree.{Alts, no_alts, alt}
use Rattle.chw_terms.specs.Constructors.{Constructor, con_at}

-- an alternative with the first pattern leaves nothing for a later one with the second: both are for one constructor or for one literal,
-- or the first is the default
abbrev pub Hides : Pattern → Pattern → Type 0
Hides Default q = Unit {0}
Hides (OfCon c n) (OfCon d m) = c.number ≡ d.number
Hides (OfLit s b) (OfLit r a) = (s ≡ r) × (b ≡ a)
Hides _ _ = ⊥

-- the pattern leaves something for each of these
abbrev pub HidesNone : Pattern → Alts → Type 0
HidesNone p no_alts = Unit {0}
HidesNone p (alt q e more) = (Hides p q → ⊥) × HidesNone p more

-- no alternative is hidden by an earlier one: no two are for one constructor or one literal, and nothing stands after a default
abbrev pub NoneHidden : Alts → Type 0
NoneHidden no_alts = Unit {0}
NoneHidden (alt q e more) = HidesNone q more × NoneHidden more

-- an alternative is the default
abbrev pub HasDefault : Alts → Type 0
HasDefault no_alts = ⊥
HasDefault (alt Default e more) = Unit {0}
HasDefault (alt q e more) = HasDefault more

-- an alternative is for this constructor
abbrev pub IsFor : ℕ → Alts → Type 0
IsFor c no_alts = ⊥
IsFor c (alt (OfCon d n) e more) = (c ≡ d.number) ⊎ IsFor c more
IsFor c (alt q e more) = IsFor c more

-- there is an alternative for each constructor of the data type that the patterns are of
pub record ForAll (datas : List Data) (alts : Alts) : Type 0 where
  pub con : ℕ
  pub has : IsFor con alts
  pub it : Constructor
  pub is : con_at datas con ≡ Some it
  pub each : (c : ℕ) (other : Constructor) → con_at datas c ≡ Some other → other.of ≡ it.of → IsFor c alts

-- there is an alternative for whatever is looked at
abbrev pub IsCovered : List Data → Alts → Type 0
IsCovered datas alts = HasDefault alts ⊎ ForAll datas alts
