-- Calls that are counted from 0, and of which those fail whose numbers are listed.
use Rattle.std.specs.Prelude.{ℕ, ◌+◌, ◌-◌, ◌^◌, ◌==◌, Bool, List, min}
use Rattle.std.specs.List.{list_any}

-- one more, but for the last value of its type, at which a count stands still
abbrev pub next : ℕ → ℕ
next count = min (count + 1) (2 ^ 64 - 1)

-- whether the call of this number fails
abbrev pub fails : List ℕ → ℕ → Bool
fails listed number = list_any (λ n. n == number) listed
