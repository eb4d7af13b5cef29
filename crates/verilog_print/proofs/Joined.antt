-- Pieces that were written one after another.
use Rattle.std.proofs.Common.{◌≡◌, ℕ, List, ◌++◌, append_assoc}

-- four pieces, of which the last three stand together
pub four_pieces : (out a b c d first second third last : List ℕ) → first ≡ out ++ a → second ≡ first ++ b → third ≡ second ++ c
    → last ≡ third ++ d → last ≡ out ++ (a ++ ((b ++ c) ++ d))
four_pieces out a b c d first second third last p q r s = rw (s, r, q, p) (simp append_assoc)

-- five pieces
pub five_pieces : (out a b c d e first second third fourth last : List ℕ) → first ≡ out ++ a → second ≡ first ++ b → third ≡ second ++ c
    → fourth ≡ third ++ d → last ≡ fourth ++ e → last ≡ out ++ ((((a ++ b) ++ c) ++ d) ++ e)
five_pieces out a b c d e first second third fourth last p q r s t = rw (t, s, r, q, p) (simp append_assoc)
