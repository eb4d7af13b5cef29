-- Words by the names of their places: their upper and their lower part.
use Rattle.std.proofs.Common.{◌≡◌, ℕ, zero, suc, ◌+◌, ◌<◌, ◌≤◌, ◌^◌, List, [], ◌∷◌, ◌++◌, take, drop, replicate, refl, sym, ap, ◌∙◌, arith}
use Rattle.std.proofs.lemmas.List.{append_assoc, drop_at, take_at}
use Rattle.bit_laws.specs.BitNames.{further, furthers, place_name, word_names}
use Rattle.bit_blast.specs.Names.{by_places}
use Rattle.bit_blast.specs.Numbering.{nth}
use Rattle.bit_blast.specs.declared.numbers.Numbers.{Numbers}
use Rattle.bit_blast.specs.declared.numbers.Numbers.TheVariants.{Each, EachThird}
use Rattle.bit_blast.proofs.Places.{length-by_places}

-- further nodes of equal numbers
pub further_at : (k a b : ℕ) → a ≡ b → further k a ≡ further k b
further_at k a b e = ap (λ (n : ℕ). further k n) e

-- the number of a lower place is no greater
pub nth_below : (numbers : Numbers) (j n : ℕ) → j ≤ n → nth numbers n < 2 ^ 32 → nth numbers j < 2 ^ 32
nth_below (Each from) j n le h = omega arith
nth_below (EachThird from) j n le h = omega arith

-- names that agree at each place below a count
pub by_places_same : (f g : ℕ → List ℕ) (n : ℕ) → ((j : ℕ) → j < n → f j ≡ g j) → by_places f n ≡ by_places g n
by_places_same f g zero same = refl
by_places_same f g (suc n) same =
    let first : f n ≡ g n = same n (omega arith) in
    let rest : by_places f n ≡ by_places g n = by_places_same f g n (λ j h. same j (omega arith)) in
    ap (λ (x : List ℕ). x ∷ by_places f n) first ∙ ap (λ (r : List (List ℕ)). g n ∷ r) rest

-- the bits of a word of this name
pub by_places_word : (name : List ℕ) (n : ℕ) → by_places (λ j. place_name name j) n ≡ word_names name n
by_places_word name zero = refl
by_places_word name (suc n) = ap (λ (r : List (List ℕ)). place_name name n ∷ r) (by_places_word name n)

-- further nodes one after another
pub by_places_furthers : (k x n : ℕ) → by_places (λ j. further k (x + j)) n ≡ furthers k x n
by_places_furthers k x zero = refl
by_places_furthers k x (suc n) = ap (λ (r : List (List ℕ)). further k (x + n) ∷ r) (by_places_furthers k x n)

-- the upper places and the lower ones
pub by_places_split : (f : ℕ → List ℕ) (q p n : ℕ) → n ≡ q + p → by_places f n ≡ by_places (λ j. f (j + p)) q ++ by_places f p
by_places_split f zero p n e = let same : n ≡ p = omega arith in ap (λ (i : ℕ). by_places f i) same
by_places_split f (suc q) p zero e = absurd (omega arith)
by_places_split f (suc q) p (suc n) e =
    let same : n ≡ q + p = omega arith in
    ap (λ (i : ℕ). f i ∷ by_places f n) same ∙ ap (λ (r : List (List ℕ)). f (q + p) ∷ r) (by_places_split f q p n same)

pub by_places_take : (f : ℕ → List ℕ) (q p n : ℕ) → n ≡ q + p → take q (by_places f n) ≡ by_places (λ j. f (j + p)) q
by_places_take f q p n e =
    ap (λ (r : List (List ℕ)). take q r) (by_places_split f q p n e)
    ∙ take_at (by_places (λ j. f (j + p)) q) (by_places f p) q (length-by_places (λ j. f (j + p)) q)

pub by_places_drop : (f : ℕ → List ℕ) (q p n : ℕ) → n ≡ q + p → drop q (by_places f n) ≡ by_places f p
by_places_drop f q p n e =
    ap (λ (r : List (List ℕ)). drop q r) (by_places_split f q p n e)
    ∙ drop_at (by_places (λ j. f (j + p)) q) (by_places f p) q (length-by_places (λ j. f (j + p)) q)

-- the lowest place alone, before other names
pub by_places_last : (f : ℕ → List ℕ) (m : ℕ) (rest : List (List ℕ)) → drop m (by_places f (suc m) ++ rest) ≡ f 0 ∷ rest
by_places_last f m rest =
    let one : suc m ≡ m + 1 = omega arith in
    let split : by_places f (suc m) ≡ by_places (λ j. f (j + 1)) m ++ f 0 ∷ [] = by_places_split f m 1 (suc m) one in
    ap (λ (r : List (List ℕ)). drop m (r ++ rest)) split
    ∙ ap (λ (r : List (List ℕ)). drop m r) (append_assoc (by_places (λ j. f (j + 1)) m) (f 0 ∷ []) rest)
    ∙ drop_at (by_places (λ j. f (j + 1)) m) (f 0 ∷ rest) m (length-by_places (λ j. f (j + 1)) m)

-- a word of one name
pub by_places_filled : (f : ℕ → List ℕ) (fill : List ℕ) (n : ℕ) → ((j : ℕ) → j < n → f j ≡ fill) → by_places f n ≡ replicate n fill
by_places_filled f fill zero all = refl
by_places_filled f fill (suc n) all =
    let first : f n ≡ fill = all n (omega arith) in
    let rest : by_places f n ≡ replicate n fill = by_places_filled f fill n (λ j h. all j (omega arith)) in
    ap (λ (x : List ℕ). x ∷ by_places f n) first ∙ ap (λ (r : List (List ℕ)). fill ∷ r) rest

-- the lower part of a word, and of further nodes
pub word_names_drop : (name : List ℕ) (q p n : ℕ) → n ≡ q + p → drop q (word_names name n) ≡ word_names name p
word_names_drop name q p n e =
    ap (λ (r : List (List ℕ)). drop q r) (sym (by_places_word name n))
    ∙ by_places_drop (λ j. place_name name j) q p n e ∙ by_places_word name p

pub furthers_drop : (k x q p n : ℕ) → n ≡ q + p → drop q (furthers k x n) ≡ furthers k x p
furthers_drop k x q p n e =
    ap (λ (r : List (List ℕ)). drop q r) (sym (by_places_furthers k x n))
    ∙ by_places_drop (λ j. further k (x + j)) q p n e ∙ by_places_furthers k x p
