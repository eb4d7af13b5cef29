-- Equal names, and the places of names.
use Rattle.std.proofs.Common.{◌≡◌, ℕ, ◌+◌, ◌<◌, ◌^◌, Bool, true, false, cond, List, [], ◌∷◌, ◌++◌, length, Option, Some, None, Bor, refl, sym, ap, ◌∙◌, subst, length-append, arith}
use Rattle.std.specs.Option.{is_some, option_map}
use Rattle.std.specs.Str.{bytes_eq}
use Rattle.std.proofs.lemmas.Bool.{false≢true}
use Rattle.std.proofs.lemmas.Option.{none-some}
use Rattle.std.proofs.lemmas.List.{map-append, length-map}
use Rattle.std.proofs.lemmas.Slice.Eq.{bytes_eq-Decides}
use Rattle.name_tables.specs.Names.{place_of, AreDistinct, texts}
use Rattle.name_tables.specs.Places.{Table, at, ArePlaces}

same_tests : (p q : Bool) → (p ≡ true → q ≡ true) → (q ≡ true → p ≡ true) → p ≡ q
same_tests true q f g = sym (f refl)
same_tests false true f g = g refl
same_tests false false f g = refl

pub bytes_sym : (a b : List ℕ) → bytes_eq a b ≡ bytes_eq b a
bytes_sym a b =
    same_tests (bytes_eq a b) (bytes_eq b a) (λ h. (bytes_eq-Decides b a).1 (sym ((bytes_eq-Decides a b).0 h)))
    (λ h. (bytes_eq-Decides a b).1 (sym ((bytes_eq-Decides b a).0 h)))

pub bytes_self : (a : List ℕ) → bytes_eq a a ≡ true
bytes_self a = (bytes_eq-Decides a a).1 refl

-- a name that has no place among names isn't the first of them, and has none among the others
absent_parts : (n : List ℕ) (names : List (List ℕ)) (name : List ℕ) → place_of (n ∷ names) name ≡ None → (bytes_eq name n ≡ false) × (place_of names name ≡ None)
absent_parts n names name e = by (bytes_eq name n) (place_of names name) e
  where
    by : (b : Bool) (o : Option ℕ) → cond b (Some 0) (option_map (λ (p : ℕ). p + 1) o) ≡ None → (b ≡ false) × (o ≡ None)
    by true o h = absurd (none-some 0 (sym h))
    by false None h = (refl, refl)
    by false (Some p) h = absurd (none-some (p + 1) (sym h))

-- a table that doesn't have a name has nothing for it
pub no_place_at : (table : Table ℕ) (name : List ℕ) → is_some (at table name) ≡ false → at table name ≡ None
no_place_at table name e = by (at table name) e
  where
    by : (o : Option ℕ) → is_some o ≡ false → o ≡ None
    by None h = refl
    by (Some p) h = absurd (false≢true (sym h))

-- the places of names with one more that is new
pub places_with : (names : List (List ℕ)) (name other : List ℕ) → place_of names name ≡ None
    → cond (bytes_eq name other) (Some (length names)) (place_of names other) ≡ place_of (names ++ name ∷ []) other
places_with [] name other new = ap (λ b. cond b (Some 0) None) (bytes_sym name other)
places_with (n ∷ names) name other new =
    let parts = absent_parts n names name new in
    by (bytes_eq name other) refl (place_of names other) (place_of (names ++ name ∷ []) other) parts.0 (places_with names name other parts.1)
  where
    by : (b : Bool) → bytes_eq name other ≡ b → (o r : Option ℕ) → bytes_eq name n ≡ false → cond b (Some (length names)) o ≡ r
        → cond b (Some (length (n ∷ names))) (cond (bytes_eq other n) (Some 0) (option_map (λ (p : ℕ). p + 1) o))
        ≡ cond (bytes_eq other n) (Some 0) (option_map (λ (p : ℕ). p + 1) r)
    by true same o r apart e =
        let other_apart : bytes_eq other n ≡ false = ap (λ (t : List ℕ). bytes_eq t n) (sym ((bytes_eq-Decides name other).0 same)) ∙ apart in
        let count : length (n ∷ names) ≡ length names + 1 = omega arith in
        ap (λ k. Some k) count ∙ sym (ap (λ b. cond b (Some 0) (option_map (λ (p : ℕ). p + 1) r)) other_apart ∙ ap (λ x. option_map (λ (p : ℕ). p + 1) x) (sym e))
    by false same o r apart e = ap (λ x. cond (bytes_eq other n) (Some 0) (option_map (λ (p : ℕ). p + 1) x)) e

-- names that differ, and one more that is new
pub distinct_with : (names : List (List ℕ)) (name : List ℕ) → AreDistinct names → place_of names name ≡ None → AreDistinct (names ++ name ∷ [])
distinct_with [] name distinct new = (refl, tt)
distinct_with (n ∷ names) name distinct new =
    let parts = absent_parts n names name new in
    (sym (ap is_some (places_with names name n parts.1)) ∙ ap (λ b. is_some (cond b (Some (length names)) (place_of names n))) parts.0 ∙ distinct.0, distinct_with names name distinct.1 parts.1)

-- the table with this for this name
abbrev pub IsWith : {X : Type 0} → Table X → Table X → List ℕ → X → Type 0
IsWith old new name x = (other : List ℕ) → at new other ≡ cond (bytes_eq name other) (Some x) (at old other)

texts_with : (items : List (Bor (List ℕ))) (key : Bor (List ℕ)) → texts (items ++ key ∷ []) ≡ texts items ++ key.now ∷ []
texts_with items key = map-append _ items (key ∷ [])

-- a new name is declared
pub declared : (old new : Table ℕ) (items : List (Bor (List ℕ))) (key : Bor (List ℕ)) → ArePlaces old (texts items) → at old key.now ≡ None
    → length items + 1 < 2 ^ 32 → IsWith old new key.now (length items) → ArePlaces new (texts (items ++ key ∷ []))
declared old new items key are absent few with_it =
    let new_name : place_of (texts items) key.now ≡ None = sym (are.places key.now) ∙ absent in
    let count : length (texts items) ≡ length items = length-map items _ in
    subst (ArePlaces new) (sym (texts_with items key)) (record {
      places = λ name. with_it name ∙ ap (λ n. cond (bytes_eq key.now name) (Some n) (at old name)) (sym count)
          ∙ ap (λ o. cond (bytes_eq key.now name) (Some (length (texts items))) o) (are.places name) ∙ places_with (texts items) key.now name new_name;
      distinct = distinct_with (texts items) key.now are.distinct new_name;
      few = rw length-append (omega arith);
    })
