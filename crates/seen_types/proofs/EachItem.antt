-- What holds of each item so far, of one, and of all.
use Rattle.std.proofs.Common.{◌≡◌, ℕ, suc, zero, ◌+◌, ◌<◌, ◌≤◌, sym, ap, ◌∙◌, subst, List, [], ◌∷◌, ◌++◌, length, map, take, get_or, arith}
use Rattle.std.proofs.lemmas.List.{take_all, map-append}
use Rattle.seen_types.specs.Each.{Each}

pub each_append : {A : Type 0} (P : A → Type 0) (xs ys : List A) → Each P xs → Each P ys → Each P (xs ++ ys)
each_append P [] ys h g = g
each_append P (x ∷ xs) ys h g = (h.0, each_append P xs ys h.1 g)

pub next_taken : {A : Type 0} (xs : List A) (i : ℕ) (x d : A) → i < length xs → x ≡ get_or xs i d → take (i + 1) xs ≡ take i xs ++ x ∷ []
next_taken [] i x d l is = absurd (omega arith)
next_taken (y ∷ xs) zero x d l is = λ k. sym is k ∷ []
next_taken (y ∷ xs) (suc i) x d l is = let e : suc i + 1 ≡ suc (i + 1) = omega arith in ap (λ n. take n (y ∷ xs)) e ∙ ap (λ zs. y ∷ zs) (next_taken xs i x d (omega arith) is)

-- one more
pub each_next : {A : Type 0} (P : A → Type 0) (xs : List A) (i : ℕ) (x d : A) → i < length xs → x ≡ get_or xs i d → Each P (take i xs) → P x → Each P (take (i + 1) xs)
each_next P xs i x d l is h p =
    subst (Each P) (sym (next_taken xs i x d l is)) (each_append P (take i xs) (x ∷ []) h (p, tt))

-- all of them
pub each_all : {A : Type 0} (P : A → Type 0) (xs : List A) (i : ℕ) → length xs ≤ i → Each P (take i xs) → Each P xs
each_all P xs i l h = subst (Each P) (take_all i xs l) h

-- so of one of them
pub each_at : {A : Type 0} (P : A → Type 0) (xs : List A) (i : ℕ) (x d : A) → i < length xs → x ≡ get_or xs i d → Each P xs → P x
each_at P [] i x d l is h = absurd (omega arith)
each_at P (y ∷ xs) zero x d l is h = subst P (sym is) h.0
each_at P (y ∷ xs) (suc i) x d l is h = each_at P xs i x d (omega arith) is h.1

pub each_more : {A : Type 0} (P Q : A → Type 0) (xs : List A) → ((x : A) → P x → Q x) → Each P xs → Each Q xs
each_more P Q [] f h = tt
each_more P Q (x ∷ xs) f h = (f x h.0, each_more P Q xs f h.1)

-- what was made of each item so far, of one more, and of all
pub mapped_next : {A B : Type 0} (f : A → B) (xs : List A) (ys zs : List B) (i : ℕ) (x d : A) (y : B) → i < length xs → x ≡ get_or xs i d → ys ≡ map f (take i xs) → y ≡ f x → zs ≡ ys ++ y ∷ [] → zs ≡ map f (take (i + 1) xs)
mapped_next f xs ys zs i x d y l is h e g =
    g ∙ (λ k. h k ++ e k ∷ []) ∙ sym (ap (map f) (next_taken xs i x d l is) ∙ map-append f (take i xs) (x ∷ []))

pub mapped_all : {A B : Type 0} (f : A → B) (xs : List A) (ys : List B) (i : ℕ) → length xs ≤ i → ys ≡ map f (take i xs) → ys ≡ map f xs
mapped_all f xs ys i l h = h ∙ ap (map f) (take_all i xs l)
