-- The places of names among names, and what is known after so many keys.
use Rattle.std.proofs.Common.{◌≡◌, ℕ, zero, suc, ◌+◌, ◌<◌, ◌≤◌, ◌⊎◌, inl, inr, Bool, true, false, cond, List, [], ◌∷◌, ◌++◌, length, Option, Some, None, slice_get, refl, sym, ap, subst, ◌∙◌, arith, add-one}
use Rattle.std.specs.Option.{is_some, option_map}
use Rattle.std.specs.Prelude.{slice_index}
use Rattle.std.specs.Str.{bytes_eq}
use Rattle.std.proofs.lemmas.Bool.{cases_lt, cond-true}
use Rattle.std.proofs.lemmas.List.{get_or_append_left, get_or_push, length_push}
use Rattle.std.proofs.lemmas.Option.{none-some, same_Some, slice_get_within}
use Rattle.std.proofs.lemmas.Slice.Eq.{bytes_eq-Decides}
use Rattle.name_tables.specs.Names.{place_of, with_name}
use Rattle.wire_classes.specs.Closed.{label_of}
use Rattle.wire_classes.specs.Keys.{AreLooked, KeysAgree, KeysClash}

-- the name stands at its place
pub place_at : (names : List (List ℕ)) (name : List ℕ) (k : ℕ) → place_of names name ≡ Some k → slice_get names k ≡ Some name
place_at [] name k e = absurd (none-some k e)
place_at (n ∷ names) name k e = by (bytes_eq name n) (place_of names name) refl refl (place_at names name) e
  where
    by : (b : Bool) (o : Option ℕ) → bytes_eq name n ≡ b → place_of names name ≡ o → ((p : ℕ) → place_of names name ≡ Some p → slice_get names p ≡ Some name)
        → cond b (Some 0) (option_map (λ (p : ℕ). p + 1) o) ≡ Some k → slice_get (n ∷ names) k ≡ Some name
    by true o same is rest h =
        subst (λ j. slice_get (n ∷ names) j ≡ Some name) (same_Some 0 k h) (ap (λ x. Some x) (sym ((bytes_eq-Decides name n).0 same)))
    by false None same is rest h = absurd (none-some k h)
    by false (Some p) same is rest h = subst (λ j. slice_get (n ∷ names) j ≡ Some name) (same_Some (p + 1) k h) (rw add-one (rest p is))

-- and stays there where one more name follows
pub place_kept : (names : List (List ℕ)) (name more : List ℕ) (k : ℕ) → place_of names name ≡ Some k → place_of (names ++ more ∷ []) name ≡ Some k
place_kept [] name more k e = absurd (none-some k e)
place_kept (n ∷ names) name more k e = by (bytes_eq name n) (place_of names name) refl (λ p at. place_kept names name more p at) e
  where
    by : (b : Bool) (o : Option ℕ) → place_of names name ≡ o
        → ((p : ℕ) → place_of names name ≡ Some p → place_of (names ++ more ∷ []) name ≡ Some p)
        → cond b (Some 0) (option_map (λ (p : ℕ). p + 1) o) ≡ Some k
        → cond b (Some 0) (option_map (λ (p : ℕ). p + 1) (place_of (names ++ more ∷ []) name)) ≡ Some k
    by true o is rest h = h
    by false None is rest h = absurd (none-some k h)
    by false (Some p) is rest h = ap (option_map (λ (p : ℕ). p + 1)) (rest p is) ∙ h

-- a name that is none of the others stands behind them
pub place_new : (names : List (List ℕ)) (name : List ℕ) → place_of names name ≡ None → place_of (names ++ name ∷ []) name ≡ Some (length names)
place_new [] name e = cond-true {A = Option ℕ} (bytes_eq name name) (Some 0) None ((bytes_eq-Decides name name).1 refl)
place_new (n ∷ names) name e = by (bytes_eq name n) (place_of names name) refl (λ none. place_new names name none) e
  where
    by : (b : Bool) (o : Option ℕ) → place_of names name ≡ o
        → (place_of names name ≡ None → place_of (names ++ name ∷ []) name ≡ Some (length names))
        → cond b (Some 0) (option_map (λ (p : ℕ). p + 1) o) ≡ None
        → cond b (Some 0) (option_map (λ (p : ℕ). p + 1) (place_of (names ++ name ∷ []) name)) ≡ Some (length (n ∷ names))
    by true o is rest h = absurd (none-some 0 (sym h))
    by false (Some p) is rest h = absurd (none-some (p + 1) (sym h))
    by false None is rest h =
        let one : length names + 1 ≡ length (n ∷ names) = omega arith in
        ap (option_map (λ (p : ℕ). p + 1)) (rest is) ∙ ap Some one

-- a new name is put behind the others
pub with_new : (names : List (List ℕ)) (name : List ℕ) → place_of names name ≡ None → with_name names name ≡ names ++ name ∷ []
with_new names name e = ap (λ o. cond (is_some o) names (names ++ name ∷ [])) e

-- an item of a list with one more is one of the list or that one
pub get_either : {X : Type 0} (xs : List X) (y : X) (i : ℕ) (x : X) → slice_get (xs ++ y ∷ []) i ≡ Some x
    → (slice_get xs i ≡ Some x) ⊎ ((i ≡ length xs) × (y ≡ x))
get_either [] y zero x e = inr (refl, same_Some y x e)
get_either [] y (suc i) x e = absurd (none-some x e)
get_either (z ∷ xs) y zero x e = inl e
get_either (z ∷ xs) y (suc i) x e = elim (get_either xs y i x e) [
  | inl h ↦ inl h
  | inr h ↦ inr (let m = h.0 in omega (arith, m), h.1)
]

-- before any key
pub looked_none : (keys : List (List ℕ)) (labels : List ℕ) → AreLooked keys labels 0 [] []
looked_none keys labels = record {
  count = refl;
  each = λ k name at. absurd (none-some name at);
  all = λ j key l at. absurd (omega (arith, l));
  agree = λ j key k l at is. absurd (omega (arith, l));
}

module _ (keys : List (List ℕ)) (labels : List ℕ) (i : ℕ) (names : List (List ℕ)) (firsts : List ℕ)
    (looked : AreLooked keys labels i names firsts) (key : List ℕ) (here : slice_get keys i ≡ Some key) where
  -- a key that stands there already has the label of the first one, or another
  pub first_within : (k : ℕ) → place_of names key ≡ Some k → k < length firsts
  first_within k e =
      let l = slice_get_within names k key (place_at names key k e) in
      let n = looked.count in
      omega (arith, l, n)

  same_key : (j : ℕ) (name : List ℕ) → i ≡ j → slice_get keys j ≡ Some name → key ≡ name
  same_key j name is at = same_Some key name (sym here ∙ ap (slice_get keys) is ∙ at)

  pub looked_old : (k : ℕ) → place_of names key ≡ Some k → label_of labels (slice_index firsts k) ≡ label_of labels i
      → AreLooked keys labels (i + 1) names firsts
  looked_old k e same = record {
    count = looked.count;
    each = looked.each;
    all = λ j name l at. elim (cases_lt j i) [
      | inl less ↦ looked.all j name less at
      | inr more ↦ let is : i ≡ j = omega (arith, l, more) in
          (k, subst (λ x. place_of names x ≡ Some k) (same_key j name is at) e)
    ];
    agree = λ j name m l at there. elim (cases_lt j i) [
      | inl less ↦ looked.agree j name m less at there
      | inr more ↦ let is : i ≡ j = omega (arith, l, more) in
          let one : k ≡ m = same_Some k m (sym (subst (λ x. place_of names x ≡ Some k) (same_key j name is at) e) ∙ there) in
          ap (λ n. label_of labels (slice_index firsts n)) (sym one) ∙ same ∙ ap (label_of labels) is
    ];
  }

  pub looked_clash : (k : ℕ) → place_of names key ≡ Some k → (label_of labels (slice_index firsts k) ≡ label_of labels i → ⊥)
      → KeysClash keys labels (slice_index firsts k) i
  looked_clash k e apart = record { key = key; one = looked.each k key (place_at names key k e); other = here; apart = apart }

  -- a new key is the first of its name
  old_first : (k : ℕ) → k < length names → slice_index (firsts ++ i ∷ []) k ≡ slice_index firsts k
  old_first k l = let n = looked.count in get_or_append_left firsts (i ∷ []) 0 k (omega (arith, l, n))

  new_first : (k : ℕ) → k ≡ length names → slice_index (firsts ++ i ∷ []) k ≡ i
  new_first k e = let n = looked.count in get_or_push firsts i 0 k (n ∙ sym e)

  pub looked_new : place_of names key ≡ None → AreLooked keys labels (i + 1) (names ++ key ∷ []) (firsts ++ i ∷ [])
  looked_new none = record {
    count =
        let n = looked.count in
        length_push firsts i ∙ ap (λ m. m + 1) n ∙ sym (length_push names key);
    each = λ k name at. elim (get_either names key k name at) [
      | inl old ↦ ap (slice_get keys) (old_first k (slice_get_within names k name old)) ∙ looked.each k name old
      | inr new ↦ ap (slice_get keys) (new_first k new.0) ∙ here ∙ ap Some new.1
    ];
    all = λ j name l at. elim (cases_lt j i) [
      | inl less ↦ let old = looked.all j name less at in (old.0, place_kept names name key old.0 old.1)
      | inr more ↦ let is : i ≡ j = omega (arith, l, more) in (length names, placed j name is at)
    ];
    agree = λ j name m l at there. elim (cases_lt j i) [
      | inl less ↦ old_agrees j name m less at there
      | inr more ↦ let is : i ≡ j = omega (arith, l, more) in
          let one : m ≡ length names = same_Some m (length names) (sym there ∙ placed j name is at) in
          ap (label_of labels) (new_first m one ∙ is)
    ];
  }
    where
      placed : (j : ℕ) (name : List ℕ) → i ≡ j → slice_get keys j ≡ Some name → place_of (names ++ key ∷ []) name ≡ Some (length names)
      placed j name is at = subst (λ x. place_of (names ++ key ∷ []) x ≡ Some (length names)) (same_key j name is at) (place_new names key none)

      old_agrees : (j : ℕ) (name : List ℕ) (m : ℕ) → j < i → slice_get keys j ≡ Some name → place_of (names ++ key ∷ []) name ≡ Some m
          → label_of labels (slice_index (firsts ++ i ∷ []) m) ≡ label_of labels j
      old_agrees j name m less at there =
          let old = looked.all j name less at in
          let one : old.0 ≡ m = same_Some old.0 m (sym (place_kept names name key old.0 old.1) ∙ there) in
          let known : place_of names name ≡ Some m = old.1 ∙ ap Some one in
          let within = slice_get_within names m name (place_at names name m known) in
          ap (label_of labels) (old_first m within) ∙ looked.agree j name m less at known

-- after all keys, equal ones have one label
pub looked_agree : (keys : List (List ℕ)) (labels : List ℕ) (n : ℕ) (names : List (List ℕ)) (firsts : List ℕ)
    → AreLooked keys labels n names firsts → length keys ≤ n → KeysAgree keys labels
looked_agree keys labels n names firsts looked whole = λ i j key a b.
    let one : i < n = let l = slice_get_within keys i key a in omega (arith, l, whole) in
    let other : j < n = let l = slice_get_within keys j key b in omega (arith, l, whole) in
    let place = looked.all i key one a in
    sym (looked.agree i key place.0 one a place.1) ∙ looked.agree j key place.0 other b place.1
