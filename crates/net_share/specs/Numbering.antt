-- The wires that are kept, and new numbers of wires.
use Rattle.std.specs.Prelude.{◌≡◌, ℕ, ◌+◌, ◌<◌, ◌≤◌, Bool, true, List, length, Some, slice_get}
use Rattle.share_laws.specs.Shares.{IsAmong, RisesFrom}

-- the marked wires before the end that are no inputs, in order
pub record AreKept (inputs : ℕ) (marks : List Bool) (end : ℕ) (kept : List ℕ) : Type 0 where
  pub rises : RisesFrom inputs kept
  pub marked : (w : ℕ) → IsAmong kept w → slice_get marks w ≡ Some true
  pub below : (w : ℕ) → IsAmong kept w → w < end
  pub all : (w : ℕ) → slice_get marks w ≡ Some true → inputs ≤ w → w < end → IsAmong kept w

-- by wire, the list has its own number for an input, and the next numbers for the first kept wires
pub record AreNumbered (inputs wires : ℕ) (kept : List ℕ) (numbers : List ℕ) (end : ℕ) : Type 0
  where
    pub count : length numbers ≡ wires
    pub own : (w : ℕ) → w < inputs → slice_get numbers w ≡ Some w
    pub next : (k w : ℕ) → k < end → slice_get kept k ≡ Some w
        → slice_get numbers w ≡ Some (inputs + k)
