-- Items of lists, options and made bits.
use Rattle.std.proofs.Common.{◌≡◌, ℕ, zero, suc, ◌+◌, Bool, List, [], ◌∷◌, ◌++◌, length, map, reverse, Option, Some, slice_get, refl, sym, ap, ◌∙◌, arith}
use Rattle.std.proofs.lemmas.List.{reverse-append, append_assoc, map-append}
use Rattle.chw_bits.specs.Bits.{bits_of}

-- an option holds one item
pub same_some : {A : Type 0} {o : Option A} {a b : A} → o ≡ Some a → o ≡ Some b → a ≡ b
same_some e f = cc

-- the item at a place of what a function makes of each item, and the one from which it is made
pub found_in_map : {A B : Type 0} (f : A → B) (xs : List A) (x : ℕ) (y : A) → slice_get xs x ≡ Some y → slice_get (map f xs) x ≡ Some (f y)
found_in_map f [] x y e = absurd (cc)
found_in_map f (a ∷ xs) zero y e = let is : a ≡ y = cc in ap (λ z. Some (f z)) is
found_in_map f (a ∷ xs) (suc x) y e = found_in_map f xs x y e

pub found_before_map : {A B : Type 0} (f : A → B) (xs : List A) (x : ℕ) (z : B) → slice_get (map f xs) x ≡ Some z → (y : A) × (slice_get xs x ≡ Some y) × (f y ≡ z)
found_before_map f [] x z e = absurd (cc)
found_before_map f (a ∷ xs) zero z e = let is : f a ≡ z = cc in (a, refl, is)
found_before_map f (a ∷ xs) (suc x) z e = found_before_map f xs x z e

-- an item of the first of two lists
pub get_left : {X : Type 0} (xs ys : List X) (i : ℕ) (x : X) → slice_get xs i ≡ Some x → slice_get (xs ++ ys) i ≡ Some x
get_left [] ys i x e = absurd (cc)
get_left (y ∷ xs) ys zero x e = e
get_left (y ∷ xs) ys (suc i) x e = get_left xs ys i x e

-- an item of the second
pub get_right : {X : Type 0} (xs ys : List X) (i : ℕ) → slice_get (xs ++ ys) (length xs + i) ≡ slice_get ys i
get_right [] ys i = let n : zero + i ≡ i = omega arith in rw n
get_right (x ∷ xs) ys i =
    let n : suc (length xs) + i ≡ suc (length xs + i) = omega arith in
    rw n (get_right xs ys i)

-- the first of a list comes last in reverse
pub reverse_cons : {A : Type 0} (x : A) (xs : List A) → reverse (x ∷ xs) ≡ reverse xs ++ x ∷ []
reverse_cons x xs = reverse-append (x ∷ []) xs

-- the first of some binders, seen from within
pub turned_onto : {A : Type 0} (x : A) (xs ys : List A) → reverse (x ∷ xs) ++ ys ≡ reverse xs ++ x ∷ ys
turned_onto x xs ys = ap (λ zs. zs ++ ys) (reverse_cons x xs) ∙ append_assoc (reverse xs) (x ∷ []) ys

pub map_reverse : {A B : Type 0} (f : A → B) (xs : List A) → map f (reverse xs) ≡ reverse (map f xs)
map_reverse f [] = refl
map_reverse f (x ∷ xs) =
    ap (map f) (reverse_cons x xs)
    ∙ map-append f (reverse xs) (x ∷ [])
    ∙ ap (λ ys. ys ++ f x ∷ []) (map_reverse f xs)
    ∙ sym (reverse_cons (f x) (map f xs))

-- a list of length 0 is empty
pub no_bits : (b : List Bool) → length b ≡ 0 → b ≡ []
no_bits [] e = refl
no_bits (x ∷ b) e = absurd (omega (arith, e))

-- as many bits are made as are wanted
pub length-bits_of : (w n : ℕ) → length (bits_of w n) ≡ w
length-bits_of zero n = refl
length-bits_of (suc w) n = ap suc (length-bits_of w n)
