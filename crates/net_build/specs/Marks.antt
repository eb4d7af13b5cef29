-- Made definitions that are placed, and marks of them.
use Rattle.std.specs.Prelude.{◌≡◌, ℕ, ◌<◌, Bool, false, List, [], ◌∷◌, ◌++◌, length, refl}
use Rattle.std.specs.Coded.{Coded, code_by, coded×, coded_list, coded_ℕ}
use Rattle.std.specs.List.{slice_index_or, AllByRecursion}
use Rattle.net_built.specs.Modules.{holds}

-- at each number stands whether it is in the list
abbrev pub AreMarks : List ℕ → List Bool → Type 0
AreMarks order marks =
    (m : ℕ) → m < length marks → slice_index_or marks m false ≡ holds order m

-- of so many made definitions each of these is one
abbrev pub AreBelow : ℕ → List ℕ → Type 0
AreBelow count ms = AllByRecursion (λ m. m < count) ms

-- how many made definitions there are, and those that are placed, in order
pub record Placings : Type 0 where
  pub count : ℕ
  pub order : List ℕ

-- the logic stores them as a pair
abbrev pub coded_placings : Coded Placings
coded_placings =
    code_by (ℕ × List ℕ)
    (coded× coded_ℕ (coded_list coded_ℕ))
    (λ p. (p.count, p.order))
    (λ p. record { count = p.0; order = p.1 })
    (λ p. refl)

-- one more is placed
abbrev pub with_placed : Placings → ℕ → Placings
with_placed p m = record { count = p.count; order = p.order ++ m ∷ [] }
