-- Checks: a rule at a place of a text, and whether it holds there.
use Rattle.std.specs.Prelude.{◌≡◌, ℕ, min, Bool, List, [], ◌∷◌, Option, Some, None}
use Rattle.std.specs.Prelude.{if◌then◌else◌}

-- a rule at this place, and whether it holds
pub record Check : Type 0 where
  pub at : ℕ
  pub holds : Bool

abbrev pub check : ℕ → Bool → Check
check at holds = record { at = at; holds = holds }

-- the lesser of two places, each of which there may be
abbrev pub lesser : Option ℕ → Option ℕ → Option ℕ
lesser None b = b
lesser (Some a) None = Some a
lesser (Some a) (Some b) = Some (min a b)

-- the place of a check that doesn't hold
abbrev pub broken_at : Check → Option ℕ
broken_at c = if c.holds then None else Some c.at

-- the least place of those checks that don't hold
abbrev pub least_broken : List Check → Option ℕ
least_broken [] = None
least_broken (c ∷ checks) = lesser (broken_at c) (least_broken checks)

-- all checks hold
abbrev pub Hold : List Check → Type 0
Hold checks = least_broken checks ≡ None
