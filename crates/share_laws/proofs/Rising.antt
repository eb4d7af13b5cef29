-- Rising lists of numbers.
use Rattle.std.proofs.Common.{◌≡◌, ℕ, zero, suc, ◌+◌, ◌<◌, ◌≤◌, List, [], ◌∷◌, length, Some, None, slice_get, refl, sym, ap, subst, ◌∙◌, arith}
use Rattle.std.proofs.lemmas.Option.{same_Some}
use Rattle.share_laws.specs.Shares.{IsAmong, IsNumbered, RisesFrom}
use Rattle.share_laws.specs.Shares.IsNumbered.{as_input, as_kept}

-- an item is no less than the first that may be
pub rises_at : (least : ℕ) (xs : List ℕ) (k w : ℕ) → RisesFrom least xs → slice_get xs k ≡ Some w → least ≤ w
rises_at least [] k w r e = absurd (cc)
rises_at least (x ∷ xs) zero w r e = let is : x ≡ w = cc in omega (arith, r.0, is)
rises_at least (x ∷ xs) (suc k) w r e = let behind = rises_at (x + 1) xs k w r.1 e in omega (arith, r.0, behind)

-- an item stands at one place
pub rises_once : (least : ℕ) (xs : List ℕ) (j k w : ℕ) → RisesFrom least xs → slice_get xs j ≡ Some w → slice_get xs k ≡ Some w → j ≡ k
rises_once least [] j k w r e f = absurd (cc)
rises_once least (x ∷ xs) zero zero w r e f = refl
rises_once least (x ∷ xs) zero (suc k) w r e f =
    let is : x ≡ w = cc in
    let behind = rises_at (x + 1) xs k w r.1 f in
    absurd (omega (arith, is, behind))
rises_once least (x ∷ xs) (suc j) zero w r e f =
    let is : x ≡ w = cc in
    let behind = rises_at (x + 1) xs j w r.1 e in
    absurd (omega (arith, is, behind))
rises_once least (x ∷ xs) (suc j) (suc k) w r e f = ap suc (rises_once (x + 1) xs j k w r.1 e f)

-- as many items fit below an end
pub rises_fit : (least end : ℕ) (xs : List ℕ) → RisesFrom least xs → least ≤ end → ((w : ℕ) → IsAmong xs w → w < end) → least + length xs ≤ end
rises_fit least end [] r l below = omega (arith, l)
rises_fit least end (x ∷ xs) r l below =
    let here = below x (zero, refl) in
    let rest = rises_fit (x + 1) end xs r.1 (omega (arith, here)) (λ w i. below w (suc i.0, i.1)) in
    omega (arith, r.0, rest)

-- the rest of the items of one list are among the rest of the other
rest_among : (x : ℕ) (xs ys : List ℕ) → RisesFrom (x + 1) xs → ((w : ℕ) → IsAmong (x ∷ xs) w → IsAmong (x ∷ ys) w) → (w : ℕ) → IsAmong xs w → IsAmong ys w
rest_among x xs ys r all w i = from (all w (suc i.0, i.1))
  where
    from : IsAmong (x ∷ ys) w → IsAmong ys w
    from (zero, e) =
        let is : x ≡ w = cc in
        let behind = rises_at (x + 1) xs i.0 w r i.1 in
        absurd (omega (arith, is, behind))
    from (suc k, e) = (k, e)

-- the first item of a list is no greater than that of another with all its items
first_least : (least x : ℕ) (y : ℕ) (ys : List ℕ) → RisesFrom least (y ∷ ys) → IsAmong (y ∷ ys) x → y ≤ x
first_least least x y ys r (zero, e) = let is : y ≡ x = cc in omega (arith, is)
first_least least x y ys r (suc k, e) = let behind = rises_at (y + 1) ys k x r.1 e in omega (arith, behind)

-- two rising lists with the same items are one
pub same_rising : (least : ℕ) (xs ys : List ℕ) → RisesFrom least xs → RisesFrom least ys → ((w : ℕ) → IsAmong xs w → IsAmong ys w)
    → ((w : ℕ) → IsAmong ys w → IsAmong xs w) → xs ≡ ys
same_rising least [] [] r s to from = refl
same_rising least [] (y ∷ ys) r s to from = let i = from y (zero, refl) in absurd (let e : None ≡ Some y = i.1 in cc)
same_rising least (x ∷ xs) [] r s to from = let i = to x (zero, refl) in absurd (let e : None ≡ Some x = i.1 in cc)
same_rising least (x ∷ xs) (y ∷ ys) r s to from =
    let one = first_least least x y ys s (to x (zero, refl)) in
    let other = first_least least y x xs r (from y (zero, refl)) in
    let is : y ≡ x = omega (arith, one, other) in
    let behind : RisesFrom (x + 1) ys = subst (λ n. RisesFrom (n + 1) ys) is s.1 in
    let to' = subst (λ n. (w : ℕ) → IsAmong (x ∷ xs) w → IsAmong (n ∷ ys) w) is to in
    let from' = subst (λ n. (w : ℕ) → IsAmong (n ∷ ys) w → IsAmong (x ∷ xs) w) is from in
    ap (λ zs. x ∷ zs) (same_rising (x + 1) xs ys r.1 behind (rest_among x xs ys r.1 to') (rest_among x ys xs behind from'))
    ∙ ap (λ n. n ∷ ys) (sym is)

-- a wire has one new number
pub one_number : (inputs : ℕ) (kept : List ℕ) (v n m : ℕ) → RisesFrom inputs kept → IsNumbered inputs kept v n → IsNumbered inputs kept v m → n ≡ m
one_number inputs kept v n m r (as_input l e) (as_input k f) = e ∙ sym f
one_number inputs kept v n m r (as_input l e) (as_kept k at f) = absurd (let after = rises_at inputs kept k v r at in omega (arith, l, after))
one_number inputs kept v n m r (as_kept k at f) (as_input l e) = absurd (let after = rises_at inputs kept k v r at in omega (arith, l, after))
one_number inputs kept v n m r (as_kept j here e) (as_kept k at f) =
    let same = rises_once inputs kept j k v r here at in omega (arith, e, f, same)

-- a new number is of one wire
pub one_origin : (inputs : ℕ) (kept : List ℕ) (v w n : ℕ) → IsNumbered inputs kept v n → IsNumbered inputs kept w n → v ≡ w
one_origin inputs kept v w n (as_input l e) (as_input k f) = sym e ∙ f
one_origin inputs kept v w n (as_input l e) (as_kept k at f) = absurd (omega (arith, l, e, f))
one_origin inputs kept v w n (as_kept k at e) (as_input l f) = absurd (omega (arith, l, e, f))
one_origin inputs kept v w n (as_kept j here e) (as_kept k at f) =
    let same : j ≡ k = omega (arith, e, f) in
    same_Some v w (sym here ∙ ap (λ i. slice_get kept i) same ∙ at)
