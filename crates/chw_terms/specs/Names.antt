-- The names of a list of declarations.
use Rattle.std.specs.Prelude.{◌≡◌, ℕ, false, List, [], ◌∷◌}
use Rattle.std.specs.List.{list_any}
use Rattle.std.specs.Str.{bytes_eq}

-- each name is of the form, and no two are equal
abbrev pub AreNames : (List ℕ → Type 0) → List (List ℕ) → Type 0
AreNames Form [] = Unit {0}
AreNames Form (name ∷ names) = Form name × (list_any (bytes_eq name) names ≡ false) × AreNames Form names
