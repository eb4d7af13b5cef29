-- The places of made definitions in an order.
use Rattle.std.specs.Prelude.{◌≡◌, ℕ, ◌<◌, ◌≤◌, List, length, slice_index}
use Rattle.net_built.specs.Circuits.{place_in}

-- at each number stands the place of the made definition of this number
abbrev pub ArePlaces : (order places : List ℕ) → Type 0
ArePlaces order places =
    (m : ℕ) → m < length places → slice_index places m ≡ place_in order m

-- all are this number
abbrev pub AllAre : ℕ → List ℕ → Type 0
AllAre n places = (m : ℕ) → m < length places → slice_index places m ≡ n

-- a number at which none stands has no place, and this is the number behind all places
abbrev pub HaveNoPlace : (order places : List ℕ) → ℕ → Type 0
HaveNoPlace order places none = (m : ℕ) → length places ≤ m → none ≡ place_in order m
