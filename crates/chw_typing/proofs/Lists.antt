-- Items of lists.
use Rattle.std.proofs.Common.{◌≡◌, ℕ, suc, zero, refl, sym, ap, ◌∙◌, List, [], ◌∷◌, ◌++◌, map, length, reverse}
use Rattle.std.specs.Prelude.{Some}
use Rattle.std.specs.List.{slice_get}
use Rattle.std.proofs.lemmas.List.{reverse-append, append_assoc, map-append}

pub found_in_map : {A B : Type 0} (f : A → B) (xs : List A) (x : ℕ) (y : A) → slice_get xs x ≡ Some y → slice_get (map f xs) x ≡ Some (f y)
found_in_map f [] x y e = absurd (cc)
found_in_map f (a ∷ xs) zero y e = let is : a ≡ y = cc in ap (λ z. Some (f z)) is
found_in_map f (a ∷ xs) (suc x) y e = found_in_map f xs x y e

pub found_before_map : {A B : Type 0} (f : A → B) (xs : List A) (x : ℕ) (z : B) → slice_get (map f xs) x ≡ Some z → (y : A) × (slice_get xs x ≡ Some y) × (f y ≡ z)
found_before_map f [] x z e = absurd (cc)
found_before_map f (a ∷ xs) zero z e = let is : f a ≡ z = cc in (a, refl, is)
found_before_map f (a ∷ xs) (suc x) z e = found_before_map f xs x z e

-- the same place holds something in a list of the same length
pub found_beside : {A B : Type 0} (xs : List A) (ys : List B) (x : ℕ) (y : B) → length xs ≡ length ys → slice_get ys x ≡ Some y → (z : A) × (slice_get xs x ≡ Some z)
found_beside xs [] x y l e = absurd (cc)
found_beside [] (b ∷ ys) x y l e = absurd (let f : zero ≡ suc (length ys) = l in cc)
found_beside (a ∷ xs) (b ∷ ys) zero y l e = (a, refl)
found_beside (a ∷ xs) (b ∷ ys) (suc x) y l e = let f : suc (length xs) ≡ suc (length ys) = l in found_beside xs ys x y (cc) e

pub reverse_cons : {A : Type 0} (x : A) (xs : List A) → reverse (x ∷ xs) ≡ reverse xs ++ x ∷ []
reverse_cons x xs = reverse-append (x ∷ []) xs

-- the first of some binders, seen from within
pub turned_onto : {A : Type 0} (x : A) (xs ys : List A) → reverse (x ∷ xs) ++ ys ≡ reverse xs ++ x ∷ ys
turned_onto x xs ys = ap (λ zs. zs ++ ys) (reverse_cons x xs) ∙ append_assoc (reverse xs) (x ∷ []) ys

pub map_reverse : {A B : Type 0} (f : A → B) (xs : List A) → map f (reverse xs) ≡ reverse (map f xs)
map_reverse f [] = refl
map_reverse f (x ∷ xs) =
    ap (map f) (reverse_cons x xs)
    ∙ map-append f (reverse xs) (x ∷ [])
    ∙ ap (λ ys. ys ++ f x ∷ []) (map_reverse f xs)
    ∙ sym (reverse_cons (f x) (map f xs))
