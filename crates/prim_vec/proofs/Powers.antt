-- Numbers of 32 bits as indices of more bits.
use Rattle.std.proofs.Common.{◌≡◌, ℕ, ◌%◌, ◌^◌, ◌<◌, ◌≤◌, true, min, sym, arith}
use Rattle.std.specs.Prelude.{nat_lt}
use Rattle.std.proofs.Math.Nat.{mod-eq_of_lt, pow-le-pow_right}
use Rattle.std.proofs.lemmas.Bool.{lt-ltb}

pub below_power : (j k : ℕ) → j < 2 ^ 32 → 32 ≤ k → j < 2 ^ k
below_power j k below le = let h : 2 ^ 32 ≤ 2 ^ k = pow-le-pow_right {n = 2} (omega arith) {i = 32} {j = k} le in omega (arith, below, h)

pub held_past : (j k : ℕ) → j < 2 ^ 32 → 32 ≤ k → true ≡ nat_lt j (2 ^ k)
held_past j k below le = sym (lt-ltb j (2 ^ k) (below_power j k below le))

pub wrapped_past : (j k : ℕ) → j < 2 ^ 32 → 32 ≤ k → j ≡ j % 2 ^ k
wrapped_past j k below le = sym (mod-eq_of_lt (below_power j k below le))

pub all_held : (n k : ℕ) → n < 2 ^ 32 → 32 ≤ k → n ≡ min n (2 ^ k)
all_held n k below le = let h = below_power n k below le in omega (arith, h)
