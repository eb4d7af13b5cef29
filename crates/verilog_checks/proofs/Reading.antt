-- Literals of one number.
use Rattle.std.proofs.Common.{◌≡◌, ℕ, ◌^◌, ◌<◌, ◌&&◌, ◌==◌, nat_lt, Bool, true, false, List, [], ◌∷◌, Some, refl, sym, ap, ◌∙◌}
use Rattle.std.proofs.Math.Bool.{beq}
use Rattle.std.proofs.Math.Nat.{mod-eq_of_lt}
use Rattle.std.proofs.lemmas.Bool.{false≢true}
use Rattle.std.proofs.lemmas.Bool.Decides.{Decides-eqb, Decides-ltb, same_from_decides}
use Rattle.std.specs.Cmp.Lexicographic.{pointwise}
use Rattle.chw_bits.proofs.RoundTrips.{number_of-bits_of}
use Rattle.chw_bits.specs.Bits.{bits_of, number_of}
use Rattle.verilog_checks.specs.Fitting.{Fits}

beq_same : (xs : List Bool) → pointwise beq xs xs ≡ true
beq_same [] = refl
beq_same (true ∷ xs) = beq_same xs
beq_same (false ∷ xs) = beq_same xs

same_from_beq : (xs ys : List Bool) → pointwise beq xs ys ≡ true → xs ≡ ys
same_from_beq [] [] e = refl
same_from_beq [] (y ∷ ys) e = absurd (false≢true e)
same_from_beq (x ∷ xs) [] e = absurd (false≢true e)
same_from_beq (true ∷ xs) (true ∷ ys) e = ap (λ l. true ∷ l) (same_from_beq xs ys e)
same_from_beq (true ∷ xs) (false ∷ ys) e = absurd (false≢true e)
same_from_beq (false ∷ xs) (true ∷ ys) e = absurd (false≢true e)
same_from_beq (false ∷ xs) (false ∷ ys) e = ap (λ l. false ∷ l) (same_from_beq xs ys e)

number_kept : (width n : ℕ) → n < 2 ^ width → number_of (bits_of width n) ≡ n
number_kept width n lt = number_of-bits_of width n ∙ mod-eq_of_lt lt

-- bits are one where their numbers are
pub one_number : (width m n : ℕ) (a b : List Bool) (r : Bool) → r ≡ pointwise beq a b → Fits width m (Some a) → Fits width n (Some b)
    → r ≡ (nat_lt m (2 ^ width) && (m == n))
one_number width m n a b r is f g =
    same_from_decides {P = m ≡ n} r (m == n) (
      λ e. sym (number_kept width m f.0) ∙ ap number_of (sym f.1 ∙ same_from_beq a b (sym is ∙ e) ∙ g.1) ∙ number_kept width n g.0,
      λ e. is ∙ ap (λ l. pointwise beq a l) (g.1 ∙ ap (bits_of width) (sym e) ∙ sym f.1) ∙ beq_same a,
    ) (Decides-eqb m n)
    ∙ ap (λ t. t && (m == n)) (sym ((Decides-ltb m (2 ^ width)).1 f.0))
