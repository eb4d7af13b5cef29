-- Lists made item by item.
use Rattle.std.proofs.Common.{◌≡◌, ℕ, ◌+◌, ◌<◌, ◌≤◌, List, [], ◌∷◌, ◌++◌, length, get_or, drop, sym, ap, ◌∙◌, append_assoc}
use Rattle.std.proofs.lemmas.List.{append-nil, at_drop_all, at_drop_more}

-- what one item more gives
pub grown_more : {X Y : Type 0} (F : List X → List Y) (xs : List X) (i : ℕ) (x d : X) (before after whole : List Y)
    → ((y : X) (ys : List X) → F (y ∷ ys) ≡ F (y ∷ []) ++ F ys) → i < length xs → x ≡ get_or xs i d
    → after ≡ before ++ F (x ∷ []) → before ++ F (drop i xs) ≡ whole → after ++ F (drop (i + 1) xs) ≡ whole
grown_more F xs i x d before after whole parts lt is more left =
    ap (λ l. l ++ F (drop (i + 1) xs)) (more ∙ ap (λ y. before ++ F (y ∷ [])) is)
    ∙ append_assoc before (F (get_or xs i d ∷ [])) (F (drop (i + 1) xs))
    ∙ ap (λ l. before ++ l) (sym (parts (get_or xs i d) (drop (i + 1) xs)))
    ∙ sym (at_drop_more (λ ys. before ++ F ys) xs i d lt) ∙ left

-- what all items give
pub grown_all : {X Y : Type 0} (F : List X → List Y) (xs : List X) (i : ℕ) (before whole : List Y) → F [] ≡ [] → length xs ≤ i → before ++ F (drop i xs) ≡ whole → before ≡ whole
grown_all F xs i before whole none le left =
    sym (append-nil before) ∙ ap (λ l. before ++ l) (sym none) ∙ sym (at_drop_all (λ ys. before ++ F ys) xs i le) ∙ left
