-- The codes of variables.
use Rattle.std.specs.Prelude.{◌≡◌, ℕ, ◌<◌, List, [], ◌∷◌, length, slice_index_or, Option}
use Rattle.name_tables.specs.Names.{place_of}

-- these are the places of the codes of one byte, by that byte
abbrev pub AreShort : List (List ℕ) → List (Option ℕ) → Type 0
AreShort codes short =
    (byte : ℕ) (other : Option ℕ) → byte < length short
    → slice_index_or short byte other ≡ place_of codes (byte ∷ [])
