-- What the rows of the table say of the data types.
use Rattle.std.specs.Prelude.{◌≡◌, ℕ, Bool, true, false, Option, Some, None}
use Rattle.std.specs.Prelude.{List, [], ◌∷◌, length, replicate, Vec}
use Rattle.std.specs.List.{slice_get}
use Rattle.chw_types.specs.declared.declarations.Data.{Data}
use Rattle.type_ports.specs.declared.rows.Row.{Row}
use Rattle.type_ports.specs.declared.rows.Row.TheVariants.{Unknown, Open, Never, Asks}
use Rattle.chw_types.specs.TypeTree.{TypeTree, vector, data_of, TypeTrees, no_types, type_and}
use Rattle.chw_types.specs.Arguments.{all_fields}
use Rattle.type_ports.specs.Representable.{Representable}
use Rattle.type_ports.specs.RowsFound.{fits_all, marked_all}

-- there is a mark for each argument, and the marked ones are representable
abbrev pub MarkedRepresentable : List Data → List Bool → TypeTrees → Type 0
MarkedRepresentable datas [] no_types = Unit {0}
MarkedRepresentable datas (b ∷ marks) (type_and t ts) = (b ≡ true → Representable datas t) × MarkedRepresentable datas marks ts
MarkedRepresentable datas [] (type_and t ts) = ⊥
MarkedRepresentable datas (b ∷ marks) no_types = ⊥

-- each implies the other
abbrev pub Both : Type 0 → Type 0 → Type 0
Both P Q = (P → Q) × (Q → P)

-- what a row says of its data type is so
abbrev pub IsRight : List Data → ℕ → Option Row → Type 0
IsRight datas d None = (ts : TypeTrees) → Representable datas (data_of d ts) → ⊥
IsRight datas d (Some Unknown) = Unit {0}
IsRight datas d (Some Open) = Unit {0}
IsRight datas d (Some Never) = (ts : TypeTrees) → Representable datas (data_of d ts) → ⊥
IsRight datas d (Some (Asks marks)) = (ts : TypeTrees) → Both (Representable datas (data_of d ts)) (MarkedRepresentable datas marks.items ts)

abbrev pub IsNotOpen : Option Row → Type 0
IsNotOpen (Some Open) = ⊥
IsNotOpen _ = Unit {0}

-- the row tells whether the data type is representable
abbrev pub IsSettled : Option Row → Type 0
IsSettled (Some Unknown) = ⊥
IsSettled (Some Open) = ⊥
IsSettled _ = Unit {0}

abbrev mutual
  -- the rows of all data types that the type stands on are settled
  pub Settled : List Row → TypeTree → Type 0
  Settled rows (vector n t) = Settled rows t
  Settled rows (data_of d ts) = IsSettled (slice_get rows d) × SettledArgs rows ts
  Settled rows _ = Unit {0}

  pub SettledArgs : List Row → TypeTrees → Type 0
  SettledArgs rows no_types = Unit {0}
  SettledArgs rows (type_and t ts) = Settled rows t × SettledArgs rows ts

-- a table of all data types, in which each row is right
pub record IsTable (datas : List Data) (rows : List Row) : Type 0 where
  pub same_length : length rows ≡ length datas
  pub right : (d : ℕ) → IsRight datas d (slice_get rows d)

-- and no data type is being looked at
pub record IsWholeTable (datas : List Data) (rows : List Row) : Type 0 where
  pub table : IsTable datas rows
  pub none_open : (d : ℕ) → IsNotOpen (slice_get rows d)

-- where there is a table, it is whole
abbrev pub AreWhole : {A : Type 0} → List Data → Option (Vec Row A) → Type 0
AreWhole datas None = Unit {0}
AreWhole datas (Some rows) = IsWholeTable datas rows.items

-- the row that a data type has by its fields and the other rows
abbrev pub IsRowOf : List Row → Data → Row → Type 0
IsRowOf rows it (Asks marks) = (fits_all rows (length it.params) (all_fields it.cons) ≡ true) × (marks.items ≡ marked_all rows (all_fields it.cons) (replicate (length it.params) false))
IsRowOf rows it Never = fits_all rows (length it.params) (all_fields it.cons) ≡ false
IsRowOf rows it _ = ⊥
