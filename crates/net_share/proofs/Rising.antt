-- Lists of rising numbers.
use Rattle.std.proofs.Common.{◌≡◌, ℕ, zero, suc, ◌+◌, ◌<◌, ◌≤◌, List, [], ◌∷◌, ◌++◌, length, Some, None, slice_get, refl, ap, arith}
use Rattle.share_laws.specs.Shares.{IsAmong, RisesFrom}

pub rises_at : (least : ℕ) (xs : List ℕ) (k w : ℕ) → RisesFrom least xs → slice_get xs k ≡ Some w → least ≤ w
rises_at least [] k w r e = absurd (let none : None ≡ Some w = e in cc)
rises_at least (x ∷ xs) zero w r e = let is : x ≡ w = cc in omega (arith, r.0, is)
rises_at least (x ∷ xs) (suc k) w r e = let behind = rises_at (x + 1) xs k w r.1 e in omega (arith, r.0, behind)

-- no number stands twice
pub rises_once : (least : ℕ) (xs : List ℕ) (j k w : ℕ) → RisesFrom least xs → slice_get xs j ≡ Some w → slice_get xs k ≡ Some w → j ≡ k
rises_once least [] j k w r e f = absurd (let none : None ≡ Some w = e in cc)
rises_once least (x ∷ xs) zero zero w r e f = refl
rises_once least (x ∷ xs) zero (suc k) w r e f =
    let is : x ≡ w = cc in
    let behind = rises_at (x + 1) xs k w r.1 f in
    absurd (omega (arith, is, behind))
rises_once least (x ∷ xs) (suc j) zero w r e f =
    let is : x ≡ w = cc in
    let behind = rises_at (x + 1) xs j w r.1 e in
    absurd (omega (arith, is, behind))
rises_once least (x ∷ xs) (suc j) (suc k) w r e f = ap suc (rises_once (x + 1) xs j k w r.1 e f)

-- as many as stand below an end fit below it
pub rises_fit : (least end : ℕ) (xs : List ℕ) → RisesFrom least xs → least ≤ end → ((w : ℕ) → IsAmong xs w → w < end) → least + length xs ≤ end
rises_fit least end [] r l below = omega (arith, l)
rises_fit least end (x ∷ xs) r l below =
    let here = below x (zero, refl) in
    let rest = rises_fit (x + 1) end xs r.1 (omega (arith, here)) (λ w i. below w (suc i.0, i.1)) in
    omega (arith, r.0, rest)

-- a number above all may stand behind them
pub rises_push : (least : ℕ) (xs : List ℕ) (y : ℕ) → RisesFrom least xs → least ≤ y → ((w : ℕ) → IsAmong xs w → w < y) → RisesFrom least (xs ++ y ∷ [])
rises_push least [] y r l below = (l, tt)
rises_push least (x ∷ xs) y r l below =
    let here = below x (zero, refl) in
    (r.0, rises_push (x + 1) xs y r.1 (omega (arith, here)) (λ w i. below w (suc i.0, i.1)))
