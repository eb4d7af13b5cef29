-- Numbers read up to the greatest of their type.
use Rattle.std.proofs.Common.{◌≡◌, ℕ, ◌+◌, ◌*◌, arith}
use Rattle.std.specs.Prelude.{min}

-- one more digit, up to the greatest number
pub one_digit_more : (most value digit more so_far times next : ℕ) → so_far ≡ min value most → more ≡ value * 10 + digit → times ≡ min (so_far * 10) most
    → next ≡ min (times + digit) most → next ≡ min more most
one_digit_more most value digit more so_far times next a b c d = omega arith

-- one more hexadecimal digit, up to the greatest number
pub one_hex_digit_more : (most value digit more so_far times next : ℕ) → so_far ≡ min value most → more ≡ value * 16 + digit → times ≡ min (so_far * 16) most
    → next ≡ min (times + digit) most → next ≡ min more most
one_hex_digit_more most value digit more so_far times next a b c d = omega arith
