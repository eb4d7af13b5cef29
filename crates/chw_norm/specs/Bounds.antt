-- Bounds of how deep the bodies of made definitions are.
use Rattle.std.specs.Prelude.{◌≡◌, ◌≤◌, ℕ, List, length, Some}
use Rattle.std.specs.List.{slice_get}
use Rattle.chw_base.specs.declared.limits.TheConstants.{MADE_DEPTH}
use Rattle.chw_terms.specs.declared.scene.Made.{Made}
use Rattle.chw_terms.specs.Depth.{depth}
use Rattle.chw_terms.specs.TermTree.{TermTree}

-- the term is not deeper than this number, if the number is within the limit
abbrev pub IsBound : ℕ → TermTree → Type 0
IsBound n e = n ≤ MADE_DEPTH → depth e ≤ n

-- a bound for each body
pub record AreBounds (made : List Made) (bounds : List ℕ) : Type 0 where
  pub each_one : length bounds ≡ length made
  pub bounded : (m : ℕ) (it : Made) (n : ℕ)
      → slice_get made m ≡ Some it → slice_get bounds m ≡ Some n → IsBound n it.body
