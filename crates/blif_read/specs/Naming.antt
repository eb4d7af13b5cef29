-- Names in tables, and the rules on statements by what is kept of the earlier ones.
use Rattle.std.specs.Prelude.{◌≡◌, ℕ, IsTrue, List, ◌++◌, length}
use Rattle.std.specs.Prelude.{◌||◌}
use Rattle.std.specs.List.{AllByRecursion}
use Rattle.name_tables.specs.Names.{AreDistinct, is_among}
use Rattle.blif_text.specs.BlifText.{HasClock, given_by, read_by}
use Rattle.blif_text.specs.Statements.{Statement}
use Rattle.blif_text.specs.Statements.Statement.{row_of}
use Rattle.blif_read.specs.declared.names.Names.{Names}

-- the same names are among both
pub record HasSame (names table : List (List ℕ)) : Type 0 where
  pub same : (name : List ℕ) → is_among table name ≡ is_among names name

-- some names, and more of them
pub record HasAlso (old more table : List (List ℕ)) : Type 0 where
  pub either : (name : List ℕ) → is_among table name ≡ (is_among old name || is_among more name)

-- what is read is known
abbrev pub AreKnown : List (List ℕ) → List (List ℕ) → Type 0
AreKnown known = AllByRecursion (λ name. IsTrue (is_among known name))

-- a statement keeps the rule on names, where these are driven before it
pub record KeepsNames (names : Names) (driven : List (List ℕ)) (it : Statement) : Type 0 where
  pub known : AreKnown names.given (read_by it)
  pub clocked : HasClock names.inputs it
  pub once : AreDistinct (driven ++ given_by it)

-- a row has so many marks
abbrev pub HasWidth : ℕ → Statement → Type 0
HasWidth width (row_of marks) = length marks ≡ width
HasWidth width _ = Unit {0}
