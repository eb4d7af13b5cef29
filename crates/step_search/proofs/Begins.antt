-- Where a search begins below a place.
use Rattle.std.proofs.Common.{◌≡◌, inl, inr, ℕ, zero, suc, ◌<◌, ◌≤◌, ◌+◌, ◌-◌, refl, sym, ap, ◌∙◌, subst, arith, List, [], ◌∷◌, ◌++◌, replicate, append_assoc}
use Rattle.chw_typing.specs.Paths.{IsEarlier}
use Rattle.step_order.specs.Sought.{IsSoughtPath}
use Rattle.step_search.specs.Begins.{IsPassed, BeginsAt}

pub none_before_root : (q : List ℕ) → IsEarlier q [] → ⊥
none_before_root [] h = h
none_before_root (i ∷ q) h = h

-- from the root on everything is sought, and the root always is
pub all_sought : (q : List ℕ) → IsSoughtPath q []
all_sought q = inl (none_before_root q)

pub root_sought : (from : List ℕ) → IsSoughtPath [] from
root_sought from = inr (from, refl)

pub begins_anywhere : (path : List ℕ) → BeginsAt path [] []
begins_anywhere path = ((λ q h. all_sought q), λ q h. all_sought (path ++ q))

-- the child on the path at which the search begins
into_path : (n : ℕ) (rest q : List ℕ) → IsSoughtPath (n ∷ q) (n ∷ rest) → IsSoughtPath q rest
into_path n rest q (inl f) = inl (λ h. f (inr (refl, h)))
into_path n rest q (inr r) = let is : rest ≡ q ++ r.0 = cc in inr (r.0, is)

not_earlier : (n : ℕ) (rest q : List ℕ) → (IsEarlier q rest → ⊥) → IsEarlier (n ∷ q) (n ∷ rest) → ⊥
not_earlier n rest q f (inl l) = omega (arith, l)
not_earlier n rest q f (inr h) = f h.1

out_of_path : (n : ℕ) (rest q : List ℕ) → IsSoughtPath q rest → IsSoughtPath (n ∷ q) (n ∷ rest)
out_of_path n rest q (inl f) = inl (not_earlier n rest q f)
out_of_path n rest q (inr r) = inr (r.0, ap (λ p. n ∷ p) r.1)

pub begins_on_path : (n m : ℕ) (rest : List ℕ) → n ≡ m → BeginsAt (n ∷ []) (m ∷ rest) rest
begins_on_path n m rest is =
    subst (λ k. BeginsAt (n ∷ []) (k ∷ rest) rest) is (into_path n rest, out_of_path n rest)

-- an earlier child
pub passed : (n m : ℕ) (rest : List ℕ) → n < m → IsPassed (n ∷ []) (m ∷ rest)
passed n m rest l q (inl f) = f (inl l)
passed n m rest l q (inr r) = let is : m ≡ n = cc in omega (arith, l, is)

-- a later child
later_not_earlier : (n m : ℕ) (rest q : List ℕ) → m < n → IsEarlier (n ∷ q) (m ∷ rest) → ⊥
later_not_earlier n m rest q l (inl k) = omega (arith, l, k)
later_not_earlier n m rest q l (inr h) = omega (arith, l, h.0)

pub begins_later : (n m : ℕ) (rest : List ℕ) → m < n → BeginsAt (n ∷ []) (m ∷ rest) []
begins_later n m rest l = ((λ q h. all_sought q), λ q h. inl (later_not_earlier n m rest q l))

-- below a path, and then below another
pub begins_behind : (p q from mid left : List ℕ) → BeginsAt p from mid → BeginsAt q mid left → BeginsAt (p ++ q) from left
begins_behind p q from mid left a b = (
  (λ r h. b.0 r (a.0 (q ++ r) (subst (λ z. IsSoughtPath z from) (append_assoc p q r) h))),
  λ r h. subst (λ z. IsSoughtPath z from) (sym (append_assoc p q r)) (a.1 (q ++ r) (b.1 r h)),
)

pub passed_behind : (p q from mid : List ℕ) → BeginsAt p from mid → IsPassed q mid → IsPassed (p ++ q) from
passed_behind p q from mid a b r h = b r (a.0 (q ++ r) (subst (λ z. IsSoughtPath z from) (append_assoc p q r) h))

pub passed_before : (p q from : List ℕ) → IsPassed p from → IsPassed (p ++ q) from
passed_before p q from h r s = h (q ++ r) (subst (λ z. IsSoughtPath z from) (append_assoc p q r) s)

-- so many zeros
abbrev pub zeros : ℕ → List ℕ
zeros n = replicate n 0

-- one zero more at the end
zeros_more : (n : ℕ) → zeros (suc n) ≡ zeros n ++ 0 ∷ []
zeros_more zero = refl
zeros_more (suc n) = ap (λ p. 0 ∷ p) (zeros_more n)

pub one_zero_more : (n : ℕ) (from mid left : List ℕ) → BeginsAt (zeros n) from mid → BeginsAt (0 ∷ []) mid left → BeginsAt (zeros (suc n)) from left
one_zero_more n from mid left a b =
    subst (λ p. BeginsAt p from left) (sym (zeros_more n)) (begins_behind (zeros n) (0 ∷ []) from mid left a b)

zeros_joined : (n m : ℕ) → zeros n ++ zeros m ≡ zeros (n + m)
zeros_joined zero m = let is : m ≡ 0 + m = omega arith in ap zeros is
zeros_joined (suc n) m = let is : suc (n + m) ≡ suc n + m = omega arith in ap (λ p. 0 ∷ p) (zeros_joined n m) ∙ ap zeros is

zeros_parted : (n k : ℕ) (q : List ℕ) → n ≤ k → zeros n ++ (zeros (k - n) ++ q) ≡ zeros k ++ q
zeros_parted n k q l =
    let whole : n + (k - n) ≡ k = omega (arith, l) in
    sym (append_assoc (zeros n) (zeros (k - n)) q) ∙ ap (λ p. p ++ q) (zeros_joined n (k - n) ∙ ap (λ m. zeros m) whole)

-- nothing is left of where the search begins
pub begins_at_all : (n k : ℕ) (q from left : List ℕ) → n ≤ k → left ≡ [] → BeginsAt (zeros n) from left → BeginsAt (zeros k ++ q) from left
begins_at_all n k q from left l e a =
    subst (λ z. BeginsAt (zeros k ++ q) from z) (sym e)
    (subst (λ p. BeginsAt p from []) (zeros_parted n k q l)
    (begins_behind (zeros n) (zeros (k - n) ++ q) from [] [] (subst (λ z. BeginsAt (zeros n) from z) e a) (begins_anywhere (zeros (k - n) ++ q))))

-- the rest of the zeros stays passed
pub zeros_passed : (n k : ℕ) (q from mid : List ℕ) → n < k → BeginsAt (zeros n) from mid → IsPassed (0 ∷ []) mid → IsPassed (zeros k ++ q) from
zeros_passed n k q from mid l a b =
    let more : suc n ≤ k = omega (arith, l) in
    subst (λ p. IsPassed p from) (zeros_parted (suc n) k q more)
    (passed_before (zeros (suc n)) (zeros (k - suc n) ++ q) from
    (subst (λ p. IsPassed p from) (sym (zeros_more n)) (passed_behind (zeros n) (0 ∷ []) from mid a b)))
