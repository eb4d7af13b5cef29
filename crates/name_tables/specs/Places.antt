-- What the table of the names of a name space says.
use Rattle.std.specs.Prelude.{◌≡◌, ℕ, ◌<◌, ◌^◌, List, length, Option}
use Rattle.std.specs.Borrow.{Bor}
use Rattle.std.specs.BTreeMap.{BTreeMap, get_by}
use Rattle.std.specs.Cmp.Lexicographic.{slice_cmp}
use Rattle.std.specs.Ordering.{nat_cmp}
use Rattle.name_tables.specs.Names.{place_of, AreDistinct}

-- from each name to what stands for it
abbrev pub Table : Type 0 → Type 0
Table X = BTreeMap (Bor (List ℕ)) X

-- what stands for this name
abbrev pub at : {X : Type 0} → Table X → List ℕ → Option X
at table name = get_by (λ key. slice_cmp nat_cmp name key.now) table

-- the table has the places of these names, each of which stands once
pub record ArePlaces (table : Table ℕ) (names : List (List ℕ)) : Type 0 where
  pub places : (name : List ℕ) → at table name ≡ place_of names name
  pub distinct : AreDistinct names
  pub few : length names < 2 ^ 32
