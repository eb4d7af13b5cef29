-- Names, and their places among others.
use Rattle.std.specs.Prelude.{◌≡◌, ℕ, ◌+◌, Bool, false, List, [], ◌∷◌, ◌++◌, map, Option, Some, None, is_some, if◌then◌else◌}
use Rattle.std.specs.Borrow.{Bor}
use Rattle.std.specs.Option.{option_map}
use Rattle.std.specs.Str.{bytes_eq}

-- the place of the first of these names that is this one, counted from 0
abbrev pub place_of : List (List ℕ) → List ℕ → Option ℕ
place_of [] name = None
place_of (n ∷ names) name = if bytes_eq name n then Some 0 else option_map (λ place. place + 1) (place_of names name)

-- whether the name is one of these
abbrev pub is_among : List (List ℕ) → List ℕ → Bool
is_among names name = is_some (place_of names name)

-- no name stands again behind itself
abbrev pub AreDistinct : List (List ℕ) → Type 0
AreDistinct [] = Unit {0}
AreDistinct (name ∷ names) = (is_among names name ≡ false) × AreDistinct names

-- the names with one more, which stands last where it is new
abbrev pub with_name : List (List ℕ) → List ℕ → List (List ℕ)
with_name names name = if is_among names name then names else names ++ name ∷ []

-- what texts the references are to
abbrev pub texts : List (Bor (List ℕ)) → List (List ℕ)
texts = map (λ (t : Bor (List ℕ)). t.now)
