-- Lists that are searched from the front.
use Rattle.std.proofs.Common.{◌≡◌, ℕ, zero, suc, ◌+◌, ◌<◌, List, [], ◌∷◌, ◌++◌, length, map, take, drop, get_or, sym, ap, ◌∙◌, subst, arith}
use Rattle.std.specs.List.{AllByRecursion}
use Rattle.std.proofs.lemmas.List.{drop_more, map-append, take-append-drop, take_more}
use Rattle.wave_text.specs.Faults.{IsFirstWithout}
use Rattle.wave_read.specs.Shown.{change_of}
use Rattle.wave_text.specs.VcdText.{Changed as Change}
use Rattle.wave_read.specs.declared.source.Changed.{Changed}

-- a list around one item
pub around : {A B : Type 0} (f : A → B) (xs : List A) (i : ℕ) (x d : A) → i < length xs → x ≡ get_or xs i d
    → map f xs ≡ map f (take i xs) ++ f x ∷ map f (drop (i + 1) xs)
around {A} f xs i x d within is =
    ap (map f) (sym (take-append-drop i xs) ∙ ap (λ (t : List A). take i xs ++ t) (drop_more xs i d within ∙ ap (λ (y : A). y ∷ drop (i + 1) xs) (sym is)))
    ∙ map-append f (take i xs) (x ∷ drop (i + 1) xs)

-- one item more
pub mapped_more : {A B : Type 0} (f : A → B) (xs : List A) (i : ℕ) (x d : A) → i < length xs → x ≡ get_or xs i d
    → map f (take (i + 1) xs) ≡ map f (take i xs) ++ f x ∷ []
mapped_more {A} f xs i x d within is =
    ap (map f) (take_more xs i d within ∙ ap (λ (y : A). take i xs ++ y ∷ []) (sym is)) ∙ map-append f (take i xs) (x ∷ [])

-- the first of a list of which something doesn't hold
pub first_without : (P : Change → Type 0) (xs : List Changed) (i : ℕ) (x d : Changed) → i < length xs → x ≡ get_or xs i d
    → AllByRecursion P (map change_of (take i xs)) → (P (change_of x) → ⊥) → IsFirstWithout P (map change_of xs) (change_of x)
first_without P xs i x d within is before broken = record {
  earlier = map change_of (take i xs);
  others = map change_of (drop (i + 1) xs);
  changes_are = around change_of xs i x d within is;
  before = before;
  broken = broken;
}

-- what holds of all changes holds of each, and of the first and the last of them
pub change_at : (P : Change → Type 0) (xs : List Changed) (i : ℕ) (x d : Changed) → i < length xs → x ≡ get_or xs i d → AllByRecursion P (map change_of xs) → P (change_of x)
change_at P [] i x d within is all = absurd (omega arith)
change_at P (y ∷ xs) zero x d within is all = subst (λ (z : Changed). P (change_of z)) (sym is) all.0
change_at P (y ∷ xs) (suc i) x d within is all = change_at P xs i x d (omega arith) is all.1

pub all_left : (P : Change → Type 0) (xs ys : List Change) → AllByRecursion P (xs ++ ys) → AllByRecursion P xs
all_left P [] ys all = tt
all_left P (x ∷ xs) ys all = (all.0, all_left P xs ys all.1)

pub all_right : (P : Change → Type 0) (xs ys : List Change) → AllByRecursion P (xs ++ ys) → AllByRecursion P ys
all_right P [] ys all = all
all_right P (x ∷ xs) ys all = all_right P xs ys all.1
