-- Worked examples of counts of looks.
use Rattle.std.specs.Prelude.{◌≡◌, ◌<◌, ◌≤◌, ℕ, List, []}
use Rattle.chw_terms.specs.declared.program.Program.{Program}
use Rattle.chw_terms.specs.declared.rule.Rule.{Rule}
use Rattle.step_search.specs.Seen.{GrowsBy, LooksFrom}

-- at two places twenty-one rules each may be tried
abbrev pub TwoPlaces : Type 0
TwoPlaces = GrowsBy 21 (λ (x : ℕ). x < 3) 5 47

-- at one place no more than twenty-one: it isn't taken twice
abbrev pub OnePlaceOnce : Type 0
OnePlaceOnce = GrowsBy 21 (λ (x : ℕ). x ≡ 3) 5 27 → ⊥

-- in a state without made definitions nothing is tried
abbrev pub NothingToSee : Type 0
NothingToSee =
    (rules : List Rule) (p : Program) (m : ℕ) (from : List ℕ) (before after : ℕ)
    → LooksFrom rules p [] m from before after → after ≤ before
