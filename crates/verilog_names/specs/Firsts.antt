-- The table of the first places of names.
use Rattle.std.specs.Prelude.{◌≡◌, ℕ, ◌≤◌, ◌^◌, List, length}
use Rattle.std.specs.Borrow.{Bor}
use Rattle.name_tables.specs.Names.{place_of, texts}
use Rattle.name_tables.specs.Places.{Table, at}

-- the table has the first place of each of these names
pub record AreFirsts (table : Table ℕ) (names : List (Bor (List ℕ))) : Type 0 where
  pub firsts : (name : List ℕ) → at table name ≡ place_of (texts names) name
  pub few : length names ≤ 2 ^ 32
