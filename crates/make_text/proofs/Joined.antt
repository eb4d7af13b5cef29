-- Pieces that were written one after another.
use Rattle.std.proofs.Common.{◌≡◌, ℕ, zero, suc, ◌+◌, List, [], ◌∷◌, ◌++◌, ap, ◌∙◌, sym, append_assoc, arith}
use Rattle.std.specs.Prelude.{flat_map}
use Rattle.std.specs.List.{range_with_len}
use Rattle.std.proofs.lemmas.Grind.{flat_map-append}
use Rattle.std.proofs.lemmas.List.{append-nil}

-- one number more
range_more : (a n : ℕ) → range_with_len a (suc n) ≡ range_with_len a n ++ (a + n) ∷ []
range_more a zero = let same : a ≡ a + 0 = omega arith in ap (λ (b : ℕ). b ∷ []) same
range_more a (suc n) =
    let same : (a + 1) + n ≡ a + suc n = omega arith in
    ap (λ (z : List ℕ). a ∷ z) (range_more (a + 1) n ∙ ap (λ (b : ℕ). range_with_len (a + 1) n ++ b ∷ []) same)

-- one more piece behind those before
pub one_more : (out now later : List ℕ) (piece : ℕ → List ℕ) (k : ℕ) → now ≡ out ++ flat_map piece (range_with_len 0 k) → later ≡ now ++ piece k
    → later ≡ out ++ flat_map piece (range_with_len 0 (k + 1))
one_more out now later piece k before this =
    let before_it = flat_map piece (range_with_len 0 k) in
    let next : k + 1 ≡ suc k = omega arith in
    let last : 0 + k ≡ k = omega arith in
    let pieces : flat_map piece (range_with_len 0 (k + 1)) ≡ before_it ++ piece k =
    ap (λ (n : ℕ). flat_map piece (range_with_len 0 n)) next
    ∙ ap (flat_map piece) (range_more 0 k ∙ ap (λ (n : ℕ). range_with_len 0 k ++ n ∷ []) last)
    ∙ flat_map-append piece (range_with_len 0 k) (k ∷ []) ∙ ap (λ (z : List ℕ). before_it ++ z) (append-nil (piece k)) in
    this ∙ ap (λ (z : List ℕ). z ++ piece k) before ∙ append_assoc out before_it (piece k) ∙ ap (λ (z : List ℕ). out ++ z) (sym pieces)

-- six pieces, from an empty text on
pub six_pieces : (out a b c d e f first second third fourth fifth last : List ℕ) → out ≡ []
    → first ≡ out ++ a → second ≡ first ++ b → third ≡ second ++ c → fourth ≡ third ++ d → fifth ≡ fourth ++ e
    → last ≡ fifth ++ f → last ≡ a ++ (b ++ (c ++ (d ++ (e ++ f))))
six_pieces out a b c d e f first second third fourth fifth last o p q r s t u = rw (u, t, s, r, q, p, o) (simp append_assoc)
