-- The least place of what doesn't hold.
use Rattle.std.specs.Prelude.{◌≡◌, ℕ, ◌≤◌, false, List, [], ◌∷◌, ◌⊎◌}
use Rattle.verilog_rules.specs.Checks.{Check}

-- at this place one of the checks doesn't hold
abbrev pub IsBrokenAt : ℕ → List Check → Type 0
IsBrokenAt at [] = ⊥
IsBrokenAt at (c ∷ checks) = ((c.holds ≡ false) × (c.at ≡ at)) ⊎ IsBrokenAt at checks

-- at this place a check doesn't hold, and at no lesser one
pub record IsLeastBroken (checks : List Check) (at : ℕ) : Type 0 where
  pub here : IsBrokenAt at checks
  pub least : (other : ℕ) → IsBrokenAt other checks → at ≤ other
