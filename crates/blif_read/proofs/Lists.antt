-- Lists of references and of statements, item by item.
use Rattle.std.proofs.Common.{◌≡◌, ℕ, zero, suc, ◌+◌, ◌<◌, List, [], ◌∷◌, ◌++◌, length, map, take, drop, get_or, refl, sym, ap, ◌∙◌, arith}
use Rattle.std.specs.Borrow.{Bor}
use Rattle.std.specs.List.{AllByRecursion, flat_map}
use Rattle.std.proofs.lemmas.List.{drop_more, flat_map_more, length-map, map-append, take-append-drop, take_all, take_more}
use Rattle.stimulus.specs.Texts.{texts}
use Rattle.blif_text.specs.BlifText.{Said}
use Rattle.blif_read.specs.Shown.{all_said, said_of}
use Rattle.blif_read.specs.declared.statement.Said.{Said as ReadSaid}

-- a list around one item
pub around : {A B : Type 0} (f : A → B) (xs : List A) (i : ℕ) (x d : A) → i < length xs → x ≡ get_or xs i d
    → map f xs ≡ map f (take i xs) ++ f x ∷ map f (drop (i + 1) xs)
around {A} f xs i x d within is =
    ap (map f) (sym (take-append-drop i xs) ∙ ap (λ (t : List A). take i xs ++ t) (drop_more xs i d within ∙ ap (λ (y : A). y ∷ drop (i + 1) xs) (sym is)))
    ∙ map-append f (take i xs) (x ∷ drop (i + 1) xs)

-- one item more
pub mapped_more : {A B : Type 0} (f : A → B) (xs : List A) (i : ℕ) (x d : A) → i < length xs → x ≡ get_or xs i d
    → map f (take (i + 1) xs) ≡ map f (take i xs) ++ f x ∷ []
mapped_more {A} f xs i x d within is =
    ap (map f) (take_more xs i d within ∙ ap (λ (y : A). take i xs ++ y ∷ []) (sym is)) ∙ map-append f (take i xs) (x ∷ [])

-- what one statement more gives
pub flat_more : (f : Said → List (List ℕ)) (all : List ReadSaid) (i : ℕ) (it d : ReadSaid) → i < length all → it ≡ get_or all i d
    → flat_map f (all_said (take (i + 1) all)) ≡ flat_map f (all_said (take i all)) ++ f (said_of it)
flat_more f all i it d within is =
    ap (flat_map f) (mapped_more said_of all i it d within is) ∙ sym (flat_map_more f [] (all_said (take i all)) (said_of it))

-- the first of some words
pub first_apart : (ws rest : List (Bor (List ℕ))) (d : Bor (List ℕ)) → 0 < length ws → rest ≡ drop 1 ws → texts ws ≡ (get_or ws 0 d).now ∷ texts rest
first_apart [] rest d some is = absurd (omega arith)
first_apart (w ∷ ws) rest d some is = ap (λ (r : List (Bor (List ℕ))). w.now ∷ texts r) (sym is)

-- the last of some words
pub last_apart : (ws : List (Bor (List ℕ))) (n : ℕ) (d : Bor (List ℕ)) → length ws ≡ n + 1 → texts ws ≡ texts (take n ws) ++ (get_or ws n d).now ∷ []
last_apart ws n d is =
    ap texts (sym (take_all (n + 1) ws (omega arith)) ∙ take_more ws n d (omega arith)) ∙ map-append (λ (t : Bor (List ℕ)). t.now) (take n ws) (get_or ws n d ∷ [])

pub length-texts : (ws : List (Bor (List ℕ))) → length (texts ws) ≡ length ws
length-texts ws = length-map ws (λ (t : Bor (List ℕ)). t.now)

pub all_push : (P : List ℕ → Type 0) (xs : List (List ℕ)) (x : List ℕ) → AllByRecursion P xs → P x → AllByRecursion P (xs ++ x ∷ [])
all_push P [] x all here = (here, tt)
all_push P (y ∷ xs) x all here = (all.0, all_push P xs x all.1 here)

pub all_front : (P : List ℕ → Type 0) (xs : List (List ℕ)) (x : List ℕ) → AllByRecursion P (xs ++ x ∷ []) → AllByRecursion P xs
all_front P [] x all = tt
all_front P (y ∷ xs) x all = (all.0, all_front P xs x all.1)

pub all_last : (P : List ℕ → Type 0) (xs : List (List ℕ)) (x : List ℕ) → AllByRecursion P (xs ++ x ∷ []) → P x
all_last P [] x all = all.0
all_last P (y ∷ xs) x all = all_last P xs x all.1
