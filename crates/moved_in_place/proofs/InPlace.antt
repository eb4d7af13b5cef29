-- Lists that a loop changes item by item.
use Rattle.std.proofs.Common.{◌≡◌, ℕ, zero, suc, ◌+◌, ◌<◌, ◌≤◌, ◌∙◌, ap, refl, arith, List, [], ◌∷◌, map, length, get_or, set}

-- the first so many items changed
abbrev pub mapped_to : {X : Type 0} → (X → X) → ℕ → List X → List X
mapped_to f zero xs = xs
mapped_to f (suc i) [] = []
mapped_to f (suc i) (x ∷ xs) = f x ∷ mapped_to f i xs

-- the next one is as it was
next_there : {X : Type 0} (f : X → X) (xs : List X) (i : ℕ) (d : X) → get_or (mapped_to f i xs) i d ≡ get_or xs i d
next_there f [] zero d = refl
next_there f [] (suc i) d = refl
next_there f (x ∷ xs) zero d = refl
next_there f (x ∷ xs) (suc i) d = next_there f xs i d

next_set : {X : Type 0} (f : X → X) (xs : List X) (i : ℕ) (d : X) → i < length xs → set (mapped_to f i xs) i (f (get_or xs i d)) ≡ mapped_to f (suc i) xs
next_set f [] i d h = absurd (omega arith)
next_set f (x ∷ xs) zero d h = refl
next_set f (x ∷ xs) (suc i) d h = ap (λ ys. f x ∷ ys) (next_set f xs i d (omega arith))

length_mapped : {X : Type 0} (f : X → X) (xs : List X) (i : ℕ) → length (mapped_to f i xs) ≡ length xs
length_mapped f xs zero = refl
length_mapped f [] (suc i) = refl
length_mapped f (x ∷ xs) (suc i) = ap suc (length_mapped f xs i)

pub next_is : {X : Type 0} (f : X → X) (xs now : List X) (i : ℕ) (d : X) → now ≡ mapped_to f i xs → get_or now i d ≡ get_or xs i d
next_is f xs now i d done = ap (λ zs. get_or zs i d) done ∙ next_there f xs i d

-- and is changed
pub next_changed : {X : Type 0} (f : X → X) (xs now : List X) (i : ℕ) (d y : X) → i < length now → now ≡ mapped_to f i xs → y ≡ f (get_or now i d) → set now i y ≡ mapped_to f (i + 1) xs
next_changed f xs now i d y h done changed =
    let within : i < length xs = omega (arith, h, ap length done, length_mapped f xs i) in
    let more : suc i ≡ i + 1 = omega arith in
    (λ j. set (done j) i ((changed ∙ ap f (next_is f xs now i d done)) j)) ∙ next_set f xs i d within ∙ ap (λ k. mapped_to f k xs) more

all_changed : {X : Type 0} (f : X → X) (xs : List X) (i : ℕ) → length xs ≤ i → mapped_to f i xs ≡ map f xs
all_changed f [] zero h = refl
all_changed f [] (suc i) h = refl
all_changed f (x ∷ xs) zero h = absurd (omega arith)
all_changed f (x ∷ xs) (suc i) h = ap (λ ys. f x ∷ ys) (all_changed f xs i (omega arith))

-- all items were changed
pub all_done : {X : Type 0} (f : X → X) (xs now : List X) (i : ℕ) → length now ≤ i → now ≡ mapped_to f i xs → now ≡ map f xs
all_done f xs now i h done = done ∙ all_changed f xs i (omega (arith, h, ap length done, length_mapped f xs i))
