-- What the code on sums owes.
use Rattle.std.proofs.Common.{◌≡◌, ℕ, suc, zero, ◌+◌, ◌<◌, Bool, sym, ap, ◌∙◌, List, [], ◌∷◌, ◌++◌, length, drop, get_or, arith, IsTrue, ◌↔◌}
use Rattle.chw_types.specs.TypeTree.{TypeTree, nat_sum, nat_product}
use Rattle.chw_types.specs.Polynomials.{multiplied, greatest, Summands, by_each, SameNaturals}
use Rattle.chw_types.specs.Agreement.{Agrees}
use Rattle.chw_types.proofs.Sums.{agree_append, agree_by_each}

pub agree_sum : (a b : TypeTree) (p q r : Summands) → Agrees p (multiplied a) → Agrees q (multiplied b) → Agrees r (p ++ q) → Agrees r (multiplied (nat_sum a b))
unfolding multiplied
agree_sum a b p q r h g e m = e m ∙ agree_append greatest p (multiplied a) q (multiplied b) h g m

pub agree_product : (a b : TypeTree) (p q r : Summands) → Agrees p (multiplied a) → Agrees q (multiplied b) → Agrees r (by_each p q) → Agrees r (multiplied (nat_product a b))
unfolding multiplied
agree_product a b p q r h g e m = e m ∙ agree_by_each greatest p (multiplied a) q (multiplied b) h g m

next_after : {A : Type 0} (s : List A) (i : ℕ) (x d : A) → i < length s → x ≡ get_or s i d → drop i s ≡ x ∷ drop (suc i) s
next_after [] i x d h e = absurd (omega arith)
next_after (y ∷ s) zero x d h e = ap (λ z. z ∷ s) (sym e)
next_after (y ∷ s) (suc i) x d h e = next_after s i x d (omega arith) e

-- the item that a loop comes to, before those that are left
pub next_dropped : {A : Type 0} (s : List A) (i : ℕ) (x d : A) → i < length s → x ≡ get_or s i d → drop i s ≡ x ∷ drop (i + 1) s
next_dropped s i x d h e = let n : suc i ≡ i + 1 = omega arith in next_after s i x d h e ∙ ap (λ k. x ∷ drop k s) n

-- the products of sums that agree with naturals are one polynomial exactly where those naturals' products are
pub times_decided : (x : Bool) (a b c d : TypeTree) (p q r s : Summands) → Agrees p (multiplied a) → Agrees q (multiplied b) → Agrees r (multiplied c) → Agrees s (multiplied d) → (IsTrue x ↔ Agrees (by_each p q) (by_each r s)) → IsTrue x ↔ SameNaturals (nat_product a b) (nat_product c d)
unfolding multiplied
times_decided x a b c d p q r s h g k l is =
    let left = agree_by_each greatest p (multiplied a) q (multiplied b) h g in
    let right = agree_by_each greatest r (multiplied c) s (multiplied d) k l in
    (λ same m. sym (left m) ∙ is.0 same m ∙ right m, λ agree. is.1 (λ m. left m ∙ agree m ∙ sym (right m)))
