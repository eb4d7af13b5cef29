-- The least place of checks that don't hold, found check by check.
use Rattle.std.specs.Prelude.{ℕ, List, [], ◌∷◌, Option}
use Rattle.verilog_rules.specs.Checks.{Check, broken_at, lesser}

-- the least of a place and of those of these checks that don't hold
abbrev pub least_after : Option ℕ → List Check → Option ℕ
least_after least [] = least
least_after least (c ∷ checks) = least_after (lesser least (broken_at c)) checks
