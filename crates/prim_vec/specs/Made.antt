-- What stands at each place of a vector that is made.
use Rattle.std.specs.Prelude.{ℕ, ◌+◌, ◌-◌, ◌%◌, ◌^◌, ◌<◌, nat_lt, if◌then◌else◌}
use Rattle.chw_types.specs.declared.kind.Kind.TheVariants.{Val}
use Rattle.chw_terms.specs.TermTree.{TermTree, var, app}
use Rattle.chw_terms.specs.Unrolled.{element, index, where_equal}
use Rattle.prim_vec.specs.declared.made.Order.{Order}
use Rattle.prim_vec.specs.declared.made.Order.TheVariants.{Kept, Past, Back, Turned}
use Rattle.prim_vec.specs.declared.made.Made.{Made}
use Rattle.prim_vec.specs.declared.made.Made.TheVariants.{Same, Placed, Mapped, Zipped, Element, Inner, Replaced}

-- the number of the element of a vector of so many that comes to stand at place j
abbrev pub place_in : Order → ℕ → ℕ → ℕ
place_in Kept len j = j
place_in (Past from) len j = from + j
place_in Back len j = len - 1 - j
place_in (Turned k) len j = (j + k) % len

-- what stands at place j
abbrev pub made_at : Made → ℕ → TermTree
made_at Same j = var 0
made_at (Placed k) j = app (var 0) (index k j)
made_at (Mapped kind n a) j = app (var 1) (element kind n a.now (var 0) j)
made_at (Zipped kind n a b) j =
    app (app (var 2) (element kind n a.now (var 1) j)) (element kind n b.now (var 0) j)
made_at (Element kind len a v order) j = element kind len a.now (var v) (place_in order len j)
made_at (Inner kind n inner q m a) j = element kind m a.now (element kind n inner.now (var 0) q) j
made_at (Replaced n k a) j =
    if nat_lt j (2 ^ k) then where_equal k (var 1) j (var 0) (element Val n a.now (var 2) j)
    else element Val n a.now (var 2) j

-- a number that 32 bits hold, and no division by zero
abbrev pub IsPlace : Order → ℕ → ℕ → Type 0
IsPlace (Past from) len j = from + j < 2 ^ 32
IsPlace (Turned k) len j = j < len
IsPlace _ len j = Unit {0}

abbrev pub Reaches : Made → ℕ → Type 0
Reaches (Element kind len a v order) j = IsPlace order len j
Reaches _ j = Unit {0}

-- it reaches the places below n
abbrev pub ReachesAll : Made → ℕ → Type 0
ReachesAll made n = (j : ℕ) → j < n → Reaches made j
