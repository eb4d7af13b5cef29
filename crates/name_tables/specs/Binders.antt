-- What the tables of a scope say. The level of a binder is how many are open outside of it.
use Rattle.std.specs.Prelude.{◌≡◌, ℕ, ◌<◌, ◌^◌, List, [], ◌∷◌, length, map, reverse, Option, Some, None, if◌then◌else◌}
use Rattle.std.specs.Option.{option_flatten}
use Rattle.std.specs.Str.{bytes_eq}
use Rattle.name_tables.specs.Places.{Table, at}
use Rattle.name_tables.specs.declared.scope.Binder.{Binder}

-- the names of binders
abbrev pub names_of : List Binder → List (List ℕ)
names_of = map (λ (b : Binder). b.name.now)

-- the level of the innermost binder of a name, among the names of the open binders, the innermost first
abbrev pub level_of : List (List ℕ) → List ℕ → Option ℕ
level_of [] name = None
level_of (n ∷ names) name = if bytes_eq name n then Some (length names) else level_of names name

-- of binders, the innermost first, each knows the level of the binder that it hides
abbrev pub KnowHidden : List Binder → Type 0
KnowHidden [] = Unit {0}
KnowHidden (b ∷ binders) = (b.hidden ≡ level_of (names_of binders) b.name.now) × KnowHidden binders

-- the names of binders, the outermost of which comes first, from the innermost one on
abbrev pub names_in : List Binder → List (List ℕ)
names_in binders = names_of (reverse binders)

-- the level that a table has for a name
abbrev pub level_at : Table (Option ℕ) → List ℕ → Option ℕ
level_at table name = option_flatten (at table name)

-- the table of levels is that of these binders, the outermost of which comes first
pub record IsScope (innermost : Table (Option ℕ)) (binders : List Binder) : Type 0 where
  pub levels : (name : List ℕ) → level_at innermost name ≡ level_of (names_in binders) name
  pub hidden : KnowHidden (reverse binders)
  pub few : length binders < 2 ^ 32
