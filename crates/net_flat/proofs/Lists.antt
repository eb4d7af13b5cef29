-- Items of lists, and what holds of all of them.
use Rattle.std.proofs.Common.{◌≡◌, ℕ, zero, suc, ◌+◌, ◌<◌, ◌⊎◌, inl, inr, List, [], ◌∷◌, ◌++◌, length, take, get_or, Some, slice_get, refl, ap, subst, ◌∙◌, arith}
use Rattle.std.specs.List.{AllByRecursion}
use Rattle.std.proofs.lemmas.List.{take_more}
use Rattle.std.proofs.lemmas.Option.{get_or_from_slice_get, slice_get_read, slice_get_within}

-- what holds of all items holds of the one at a place
pub all_at : {X : Type 0} (P : X → Type 0) (xs : List X) (i : ℕ) (x : X) → AllByRecursion P xs → slice_get xs i ≡ Some x → P x
all_at P [] i x h e = absurd (cc)
all_at P (y ∷ xs) zero x h e = let is : y ≡ x = cc in subst P is h.0
all_at P (y ∷ xs) (suc i) x h e = all_at P xs i x h.1 e

-- what holds at each place holds of all items
pub all_of_each : {X : Type 0} (P : X → Type 0) (xs : List X) → ((n : ℕ) (x : X) → slice_get xs n ≡ Some x → P x) → AllByRecursion P xs
all_of_each P [] each = tt
all_of_each P (x ∷ xs) each = (each zero x refl, all_of_each P xs (λ n y e. each (suc n) y e))

-- what follows from what holds of each holds of each
pub all_then : {X : Type 0} (P Q : X → Type 0) (xs : List X) → ((x : X) → P x → Q x) → AllByRecursion P xs → AllByRecursion Q xs
all_then P Q [] f h = tt
all_then P Q (x ∷ xs) f h = (f x h.0, all_then P Q xs f h.1)

pub all_append : {X : Type 0} (P : X → Type 0) (xs ys : List X) → AllByRecursion P xs → AllByRecursion P ys → AllByRecursion P (xs ++ ys)
all_append P [] ys h k = k
all_append P (x ∷ xs) ys h k = (h.0, all_append P xs ys h.1 k)

pub all_left : {X : Type 0} (P : X → Type 0) (xs ys : List X) → AllByRecursion P (xs ++ ys) → AllByRecursion P xs
all_left P [] ys h = tt
all_left P (x ∷ xs) ys h = (h.0, all_left P xs ys h.1)

pub all_right : {X : Type 0} (P : X → Type 0) (xs ys : List X) → AllByRecursion P (xs ++ ys) → AllByRecursion P ys
all_right P [] ys h = h
all_right P (x ∷ xs) ys h = all_right P xs ys h.1

-- an item of the first of two lists
pub get_left : {X : Type 0} (xs ys : List X) (i : ℕ) (x : X) → slice_get xs i ≡ Some x → slice_get (xs ++ ys) i ≡ Some x
get_left [] ys i x e = absurd (cc)
get_left (y ∷ xs) ys zero x e = e
get_left (y ∷ xs) ys (suc i) x e = get_left xs ys i x e

-- an item of the second
pub get_right : {X : Type 0} (xs ys : List X) (i : ℕ) → slice_get (xs ++ ys) (length xs + i) ≡ slice_get ys i
get_right [] ys i = let n : zero + i ≡ i = omega arith in rw n
get_right (x ∷ xs) ys i =
    let n : suc (length xs) + i ≡ suc (length xs + i) = omega arith in
    rw n (get_right xs ys i)

-- an item of two lists is one of the first or of the second
pub get_either : {X : Type 0} (xs ys : List X) (i : ℕ) (x : X) → slice_get (xs ++ ys) i ≡ Some x
    → (slice_get xs i ≡ Some x) ⊎ ((j : ℕ) × (i ≡ length xs + j) × (slice_get ys j ≡ Some x))
get_either [] ys i x e = inr (i, omega arith, e)
get_either (y ∷ xs) ys zero x e = inl e
get_either (y ∷ xs) ys (suc i) x e = elim (get_either xs ys i x e) [
  | inl h ↦ inl h
  | inr h ↦ inr (h.0, omega (arith, h.1), h.2)
]

-- a list at one of its items
pub split_at : {X : Type 0} (xs : List X) (i : ℕ) (x : X) → slice_get xs i ≡ Some x
    → (after : List X) × (xs ≡ take i xs ++ x ∷ after)
split_at [] i x e = absurd (cc)
split_at (y ∷ xs) zero x e = let same : y ≡ x = cc in (xs, ap (λ z. z ∷ xs) same)
split_at (y ∷ xs) (suc i) x e = let s = split_at xs i x e in (s.0, ap (λ zs. y ∷ zs) s.1)

-- the item behind the first list
pub get_middle : {X : Type 0} (xs : List X) (x : X) (ys : List X) → slice_get (xs ++ x ∷ ys) (length xs) ≡ Some x
get_middle [] x ys = refl
get_middle (y ∷ xs) x ys = get_middle xs x ys

-- the item at which a loop over these items stands, in the list that they are
pub item_at : {X : Type 0} (xs ys : List X) (i : ℕ) (x : X) → xs ≡ ys → i < length xs → x ≡ get_or xs i x → slice_get ys i ≡ Some x
item_at xs ys i x same l is = subst (λ zs. slice_get zs i ≡ Some x) same (slice_get_read xs (length xs) i x refl l is)

-- one more item is taken
pub take_next : {X : Type 0} (xs : List X) (i : ℕ) (x : X) → slice_get xs i ≡ Some x → take (i + 1) xs ≡ take i xs ++ x ∷ []
take_next xs i x e =
    take_more xs i x (slice_get_within xs i x e) ∙ ap (λ y. take i xs ++ y ∷ []) (get_or_from_slice_get xs i x x e)

-- an item of the first ones is an item
pub get_taken : {X : Type 0} (n : ℕ) (xs : List X) (i : ℕ) (x : X) → slice_get (take n xs) i ≡ Some x → slice_get xs i ≡ Some x
get_taken zero xs i x e = absurd (cc)
get_taken (suc n) [] i x e = e
get_taken (suc n) (y ∷ xs) zero x e = e
get_taken (suc n) (y ∷ xs) (suc i) x e = get_taken n xs i x e
