-- The numbers of made definitions, by their origins.
use Rattle.std.specs.Prelude.{◌≡◌, ◌⊎◌, ℕ, ◌<◌, length, Some}
use Rattle.std.specs.List.{slice_get}
use Rattle.chw_terms.specs.Evaluated.{evaluated_in}
use Rattle.chw_terms.specs.TermTree.{TermTree}
use Rattle.rewriting.specs.Origins.{MadeOf, Origins}

-- the made definition of this number has this origin, with closed naturals as numbers
abbrev pub HasOrigin : Origins → TermTree → ℕ → Type 0
HasOrigin o e m =
    (it : MadeOf) × (slice_get o.made m ≡ Some it) × (evaluated_in it.origin ≡ evaluated_in e)

-- the number of the first made definition with this origin; where there is none, the number that
-- comes next
abbrev pub IsNumberOf : Origins → TermTree → ℕ → Type 0
IsNumberOf o e m =
    (HasOrigin o e m ⊎ (m ≡ length o.made)) × ((j : ℕ) → j < m → HasOrigin o e j → ⊥)
