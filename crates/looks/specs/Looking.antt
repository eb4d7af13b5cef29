-- How a look raises a count.
use Rattle.std.specs.Prelude.{ℕ, suc, min, ◌^◌, ◌-◌}

-- one more, up to the last value of `u64`
abbrev pub looked : ℕ → ℕ
looked n = min (suc n) (2 ^ 64 - 1)
