-- Places of names of which none stands twice.
use Rattle.std.proofs.Common.{arith, ◌≡◌, ℕ, zero, suc, ◌+◌, Bool, true, false, cond, ◌||◌, List, [], ◌∷◌, ◌++◌, Option, Some, None, inl, inr, refl, sym, ap, ◌∙◌, subst}
use Rattle.std.specs.Prelude.{slice_get, option_map, is_some}
use Rattle.std.specs.Str.{bytes_eq}
use Rattle.std.proofs.lemmas.Bool.{false≢true, or_cases}
use Rattle.std.proofs.lemmas.Option.{same_Some}
use Rattle.std.proofs.lemmas.Slice.Eq.{bytes_eq-Decides}
use Rattle.name_tables.specs.Names.{AreDistinct, is_among, place_of}

-- a name is one of some where it is the first or one of the others
pub among : (n : List ℕ) (ns : List (List ℕ)) (name : List ℕ) → is_among (n ∷ ns) name ≡ (bytes_eq name n || is_among ns name)
among n ns name = at (bytes_eq name n) (place_of ns name)
  where
    at : (b : Bool) (o : Option ℕ) → is_some (cond b (Some 0) (option_map (λ (p : ℕ). p + 1) o)) ≡ (b || is_some o)
    at true o = refl
    at false None = refl
    at false (Some p) = refl

or_true : (a b : Bool) → b ≡ true → (a || b) ≡ true
or_true true b e = refl
or_true false b e = e

pub among_left : (xs ys : List (List ℕ)) (name : List ℕ) → is_among xs name ≡ true → is_among (xs ++ ys) name ≡ true
among_left [] ys name here = absurd (false≢true here)
among_left (x ∷ xs) ys name here =
    among x (xs ++ ys) name
    ∙ elim (or_cases (bytes_eq name x) (is_among xs name) (sym (among x xs name) ∙ here)) [
      | inl first ↦ ap (λ b. b || is_among (xs ++ ys) name) first
      | inr later ↦ or_true (bytes_eq name x) (is_among (xs ++ ys) name) (among_left xs ys name later)
    ]

pub among_right : (xs ys : List (List ℕ)) (name : List ℕ) → is_among ys name ≡ true → is_among (xs ++ ys) name ≡ true
among_right [] ys name here = here
among_right (x ∷ xs) ys name here =
    among x (xs ++ ys) name ∙ or_true (bytes_eq name x) (is_among (xs ++ ys) name) (among_right xs ys name here)

pub distinct_right : (xs ys : List (List ℕ)) → AreDistinct (xs ++ ys) → AreDistinct ys
distinct_right [] ys distinct = distinct
distinct_right (x ∷ xs) ys distinct = distinct_right xs ys distinct.1

-- of distinct names none is in two parts
pub apart : (xs ys : List (List ℕ)) (name : List ℕ) → AreDistinct (xs ++ ys) → is_among xs name ≡ true → is_among ys name ≡ true → ⊥
apart [] ys name distinct here there = false≢true here
apart (x ∷ xs) ys name distinct here there =
    elim (or_cases (bytes_eq name x) (is_among xs name) (sym (among x xs name) ∙ here)) [
      | inl first ↦
          let same : name ≡ x = (bytes_eq-Decides name x).0 first in
          false≢true (sym distinct.0 ∙ subst (λ (n : List ℕ). is_among (xs ++ ys) n ≡ true) same (among_right xs ys name there))
      | inr later ↦ apart xs ys name distinct.1 later there
    ]

pub placed_among : (names : List (List ℕ)) (name : List ℕ) (k : ℕ) → place_of names name ≡ Some k → is_among names name ≡ true
placed_among names name k place = ap is_some place

-- a name at a place is one of the names
pub stands_among : (names : List (List ℕ)) (k : ℕ) (name : List ℕ) → slice_get names k ≡ Some name → is_among names name ≡ true
stands_among [] k name found = absurd (cc)
stands_among (n ∷ names) zero name found =
    let same : name ≡ n = cc in
    among n names name ∙ ap (λ b. b || is_among names name) ((bytes_eq-Decides name n).1 same)
stands_among (n ∷ names) (suc k) name found =
    among n names name ∙ or_true (bytes_eq name n) (is_among names name) (stands_among names k name found)

-- the name at a place of distinct names has this place
pub place_at : (names : List (List ℕ)) (k : ℕ) (name : List ℕ) → AreDistinct names → slice_get names k ≡ Some name → place_of names name ≡ Some k
place_at [] k name distinct found = absurd (cc)
place_at (n ∷ names) zero name distinct found =
    let same : name ≡ n = cc in
    ap (λ b. cond b (Some 0) (option_map (λ (p : ℕ). p + 1) (place_of names name))) ((bytes_eq-Decides name n).1 same)
place_at (n ∷ names) (suc k) name distinct found = by_case (bytes_eq name n) refl (place_at names k name distinct.1 found)
  where
    by_case : (b : Bool) → bytes_eq name n ≡ b → place_of names name ≡ Some k → place_of (n ∷ names) name ≡ Some (suc k)
    by_case true is later =
        let same : name ≡ n = (bytes_eq-Decides name n).0 is in
        absurd (false≢true (sym distinct.0 ∙ subst (λ (x : List ℕ). is_among names x ≡ true) same (stands_among names k name found)))
    by_case false is later =
        let next : k + 1 ≡ suc k = omega arith in
        ap (λ b. cond b (Some 0) (option_map (λ (p : ℕ). p + 1) (place_of names name))) is
        ∙ ap (option_map (λ (p : ℕ). p + 1)) later ∙ ap Some next

-- of distinct names each stands at one place
pub one_place : (names : List (List ℕ)) (j k : ℕ) (name : List ℕ) → AreDistinct names → slice_get names j ≡ Some name → slice_get names k ≡ Some name → j ≡ k
one_place names j k name distinct first second =
    same_Some j k (sym (place_at names j name distinct first) ∙ place_at names k name distinct second)
