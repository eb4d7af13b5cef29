-- Lists gone through item by item.
use Rattle.std.proofs.Common.{◌≡◌, ℕ, ◌+◌, ◌<◌, ◌≤◌, List, [], ◌∷◌, ◌++◌, length, get_or, take, map, sym, ap, ◌∙◌}
use Rattle.std.specs.List.{flat_map}
use Rattle.std.proofs.lemmas.Grind.{flat_map-append}
use Rattle.std.proofs.lemmas.List.{append-nil, map-append, take_all, take_more}

-- what was made of the items so far, and of one more
pub made_more : {X Y : Type 0} (f : X → Y) (xs : List X) (i : ℕ) (x : X) (y : Y) {done : List Y} → i < length xs → x ≡ get_or xs i x → done ≡ map f (take i xs) → y ≡ f x
    → done ++ y ∷ [] ≡ map f (take (i + 1) xs)
made_more f xs i x y lt is so_far made =
    (λ j. so_far j ++ made j ∷ []) ∙ (λ j. map f (take i xs) ++ f (is j) ∷ []) ∙ sym (map-append f (take i xs) (get_or xs i x ∷ [])) ∙ ap (map f) (sym (take_more xs i x lt))

-- the same, where each item is made in a scope that stays as it is
pub made_more_there : {S X Y : Type 0} (f : S → X → Y) (scope here : S) (xs : List X) (i : ℕ) (x : X) (y : Y) {done : List Y} → i < length xs → x ≡ get_or xs i x → here ≡ scope
    → done ≡ map (f scope) (take i xs) → y ≡ f here x → done ++ y ∷ [] ≡ map (f scope) (take (i + 1) xs)
made_more_there f scope here xs i x y lt is same so_far made = made_more (f scope) xs i x y lt is so_far (made ∙ ap (λ s. f s x) same)

-- what was made of all items
pub made_all : {X Y : Type 0} (f : X → Y) (xs : List X) (i : ℕ) {done : List Y} → length xs ≤ i → done ≡ map f (take i xs) → done ≡ map f xs
made_all f xs i le so_far = so_far ∙ ap (map f) (take_all i xs le)

-- what was gathered of the items so far, and of one more
pub gathered_more : {X Y : Type 0} (f : X → List Y) (xs : List X) (i : ℕ) (x : X) → i < length xs → x ≡ get_or xs i x
    → flat_map f (take (i + 1) xs) ≡ flat_map f (take i xs) ++ f x
gathered_more f xs i x lt is =
    ap (flat_map f) (take_more xs i x lt) ∙ flat_map-append f (take i xs) (get_or xs i x ∷ [])
    ∙ ap (λ l. flat_map f (take i xs) ++ l) (append-nil (f (get_or xs i x)) ∙ ap f (sym is))

pub gathered_all : {X Y : Type 0} (f : X → List Y) (xs : List X) (i : ℕ) → length xs ≤ i → flat_map f (take i xs) ≡ flat_map f xs
gathered_all f xs i le = ap (flat_map f) (take_all i xs le)
