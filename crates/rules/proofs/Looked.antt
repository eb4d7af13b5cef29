-- A look raises the count by one at most.
use Rattle.std.proofs.Common.{◌≡◌, ℕ, ◌≤◌, ◌+◌, arith}
use Rattle.looks.specs.Looking.{looked}

pub one_more_at_most : (a b n m : ℕ) → b ≡ looked n → n ≤ a + m → b ≤ a + (m + 1)
one_more_at_most a b n m is l = omega (arith, is, l)
