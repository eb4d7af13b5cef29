-- Lists that are made of a list and the numbers of its places.
use Rattle.std.proofs.Common.{◌≡◌, ℕ, zero, suc, ◌+◌, ◌<◌, ◌≤◌, List, [], ◌∷◌, ◌++◌, length, map, Some, refl, ap, ◌∙◌, arith}
use Rattle.std.specs.Prelude.{option_map, slice_get}
use Rattle.std.specs.List.{flat_map, AllByRecursion}
use Rattle.verilog_text.proofs.PrintedSource.{numbered_as}

module _ {A B : Type 0} where
  pub numbered_length : (f : ℕ → A → B) (k : ℕ) (xs : List A) → length (numbered_as f k xs) ≡ length xs
  numbered_length f k [] = refl
  numbered_length f k (x ∷ xs) = let more = numbered_length f (k + 1) xs in omega arith

  pub numbered_get : (f : ℕ → A → B) (a k : ℕ) (xs : List A) → slice_get (numbered_as f a xs) k ≡ option_map (f (a + k)) (slice_get xs k)
  numbered_get f a k [] = refl
  numbered_get f a zero (x ∷ xs) = let same : a ≡ a + zero = omega arith in ap (λ (n : ℕ). Some (f n x)) same
  numbered_get f a (suc k) (x ∷ xs) =
      let same : a + 1 + k ≡ a + suc k = omega arith in
      numbered_get f (a + 1) k xs ∙ ap (λ (n : ℕ). option_map (f n) (slice_get xs k)) same

  pub numbered_append : (f : ℕ → A → B) (a : ℕ) (xs ys : List A) → numbered_as f a (xs ++ ys) ≡ numbered_as f a xs ++ numbered_as f (a + length xs) ys
  numbered_append f a [] ys = let same : a ≡ a + 0 = omega arith in ap (λ (n : ℕ). numbered_as f n ys) same
  numbered_append f a (x ∷ xs) ys =
      let same : a + 1 + length xs ≡ a + length (x ∷ xs) = omega arith in
      ap (λ (l : List B). f a x ∷ l) (numbered_append f (a + 1) xs ys ∙ ap (λ (n : ℕ). numbered_as f (a + 1) xs ++ numbered_as f n ys) same)

  pub numbered_same : (f g : ℕ → A → B) (end a : ℕ) (xs : List A) → a + length xs ≤ end → ((k : ℕ) (x : A) → a ≤ k → k < end → f k x ≡ g k x) → numbered_as f a xs ≡ numbered_as g a xs
  numbered_same f g end a [] within each = refl
  numbered_same f g end a (x ∷ xs) within each =
      let head = each a x (omega arith) (omega arith) in
      let tail = numbered_same f g end (a + 1) xs (omega arith) (λ k y from to. each k y (omega arith) to) in
      λ i. head i ∷ tail i

  pub numbered_all : (P : B → Type 0) (f : ℕ → A → B) (end a : ℕ) (xs : List A) → a + length xs ≤ end → ((k : ℕ) (x : A) → a ≤ k → k < end → P (f k x)) → AllByRecursion P (numbered_as f a xs)
  numbered_all P f end a [] within each = tt
  numbered_all P f end a (x ∷ xs) within each =
      (each a x (omega arith) (omega arith), numbered_all P f end (a + 1) xs (omega arith) (λ k y from to. each k y (omega arith) to))

-- what is made doesn't hang on the list beyond its length
pub numbered_by_length : {A B C : Type 0} (f : ℕ → C) (a : ℕ) (xs : List A) (ys : List B) → length xs ≡ length ys → numbered_as (λ k (x : A). f k) a xs ≡ numbered_as (λ k (y : B). f k) a ys
numbered_by_length f a [] [] same = refl
numbered_by_length f a [] (y ∷ ys) same = absurd (omega arith)
numbered_by_length f a (x ∷ xs) [] same = absurd (omega arith)
numbered_by_length f a (x ∷ xs) (y ∷ ys) same =
    let tail = numbered_by_length f (a + 1) xs ys (omega arith) in λ i. f a ∷ tail i

pub map_numbered : {A B C : Type 0} (g : B → C) (f : ℕ → A → B) (a : ℕ) (xs : List A) → map g (numbered_as f a xs) ≡ numbered_as (λ k (x : A). g (f k x)) a xs
map_numbered g f a [] = refl
map_numbered g f a (x ∷ xs) = ap (λ l. g (f a x) ∷ l) (map_numbered g f (a + 1) xs)

pub numbered_map : {A B C : Type 0} (f : ℕ → B → C) (g : A → B) (a : ℕ) (xs : List A) → numbered_as f a (map g xs) ≡ numbered_as (λ k (x : A). f k (g x)) a xs
numbered_map f g a [] = refl
numbered_map f g a (x ∷ xs) = ap (λ l. f a (g x) ∷ l) (numbered_map f g (a + 1) xs)

-- each gives one
pub flat_numbered : {A B C : Type 0} (g : B → List C) (f : ℕ → A → B) (h : ℕ → A → C) (a : ℕ) (xs : List A) → ((k : ℕ) (x : A) → g (f k x) ≡ h k x ∷ [])
    → flat_map g (numbered_as f a xs) ≡ numbered_as h a xs
flat_numbered g f h a [] each = refl
flat_numbered g f h a (x ∷ xs) each =
    let head = each a x in
    let tail = flat_numbered g f h (a + 1) xs each in
    λ i. head i ++ tail i

-- each gives none
pub flat_none : {A B C : Type 0} (g : B → List C) (f : ℕ → A → B) (a : ℕ) (xs : List A) → ((k : ℕ) (x : A) → g (f k x) ≡ []) → flat_map g (numbered_as f a xs) ≡ []
flat_none g f a [] each = refl
flat_none g f a (x ∷ xs) each =
    let head = each a x in
    let tail = flat_none g f (a + 1) xs each in
    λ i. head i ++ tail i
