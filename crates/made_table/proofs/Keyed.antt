-- Origins are found by their signs.
use Rattle.std.proofs.Common.{◌≡◌, ◌∙◌, ap, sym, refl, ℕ, zero, suc, ◌<◌, Bool, true, false, ◌||◌, List, [], ◌∷◌, ◌++◌, length, map, get_or, Some, cond, arith}
use Rattle.std.specs.List.{slice_get, list_any, position}
use Rattle.std.specs.Cmp.Lexicographic.{pointwise}
use Rattle.std.proofs.lemmas.Bool.{false≢true}
use Rattle.std.proofs.lemmas.List.{map-append}
use Rattle.std.proofs.lemmas.List.Quantifiers.{position-Some}
use Rattle.std.proofs.lemmas.Option.{same_Some, get_or_from_slice_get}
use Rattle.chw_terms.specs.declared.scene.Made.{Made}
use Rattle.chw_terms.specs.Evaluated.{evaluated_in}
use Rattle.chw_terms.specs.TermTree.{TermTree}
use Rattle.rewriting.specs.Origins.{MadeOf, made_of}
use Rattle.term_signs.specs.contracts.alphabet.SignPartialEq.TheImpl.{eq-value}
use Rattle.term_signs.specs.declared.alphabet.Sign.{Sign}
use Rattle.term_signs.specs.TermSigns.{signs}
use Rattle.term_signs.specs.Written.{written}
use Rattle.term_signs.proofs.Compared.{signs_decided}
use Rattle.term_signs.proofs.Told.{signs_told}
use Rattle.made_table.specs.Held.{HoldsOrigin, HoldsNone, IsFirstOf}

-- an item of a mapped list
pub in_map : {X Y : Type 0} (f : X → Y) (xs : List X) (i : ℕ) (y : Y) → slice_get (map f xs) i ≡ Some y → (x : X) × (slice_get xs i ≡ Some x) × (f x ≡ y)
in_map f [] i y e = absurd (cc)
in_map f (x ∷ xs) zero y e = (x, refl, same_Some (f x) y e)
in_map f (x ∷ xs) (suc i) y e = in_map f xs i y e

pub to_map : {X Y : Type 0} (f : X → Y) (xs : List X) (i : ℕ) (x : X) → slice_get xs i ≡ Some x → slice_get (map f xs) i ≡ Some (f x)
to_map f [] i x e = absurd (cc)
to_map f (y ∷ xs) zero x e = ap (λ v. Some (f v)) (same_Some y x e)
to_map f (y ∷ xs) (suc i) x e = to_map f xs i x e

abbrev pub signs_in : List Made → List (List Sign)
signs_in made = map (λ (m : Made). written m.origin) made

-- the signs of an origin, and what they tell
origin_seen : (made : List Made) (e : TermTree) (m : ℕ) → HoldsOrigin made e m → slice_get (signs_in made) m ≡ Some (written e)
origin_seen made e m h =
    let x = in_map made_of made m h.0 h.1 in
    to_map (λ (m : Made). written m.origin) made m x.0 x.1 ∙ ap (λ (o : MadeOf). Some (signs (evaluated_in o.origin))) x.2 ∙ ap (λ o. Some (signs o)) h.2

origin_told : (made : List Made) (e : TermTree) (m : ℕ) → slice_get (signs_in made) m ≡ Some (written e) → HoldsOrigin made e m
origin_told made e m h =
    let x = in_map (λ (m : Made). written m.origin) made m (written e) h in
    (made_of x.0, to_map made_of made m x.0 x.1, signs_told (evaluated_in x.0.origin) (evaluated_in e) x.2)

-- whether a key is of these signs
abbrev pub is_key : {K : Type 0} → (K → List Sign) → List Sign → K → Bool
is_key items q k = pointwise eq-value.it q (items k)

sees : {K : Type 0} (items : K → List Sign) (keys : List K) (made : List Made) (q : List Sign) (e : TermTree) → map items keys ≡ signs_in made → q ≡ written e
    → (j : ℕ) → HoldsOrigin made e j → (k : K) × (slice_get keys j ≡ Some k) × (is_key items q k ≡ true)
sees items keys made q e same is j h =
    let at = in_map items keys j (written e) (ap (λ ss. slice_get ss j) same ∙ origin_seen made e j h) in
    (at.0, at.1, (signs_decided q (items at.0)).1 (is ∙ sym at.2))

tells : {K : Type 0} (items : K → List Sign) (keys : List K) (made : List Made) (q : List Sign) (e : TermTree) → map items keys ≡ signs_in made → q ≡ written e
    → (j : ℕ) (k : K) → slice_get keys j ≡ Some k → is_key items q k ≡ true → HoldsOrigin made e j
tells items keys made q e same is j k at h =
    origin_told made e j
    (ap (λ ss. slice_get ss j) (sym same) ∙ to_map items keys j k at ∙ ap (λ s. Some s) (sym ((signs_decided q (items k)).0 h) ∙ is))

-- what is found is the first
first_from : {K : Type 0} (items : K → List Sign) (keys : List K) (d : K) (made : List Made) (q : List Sign) (e : TermTree) (i : ℕ) → map items keys ≡ signs_in made → q ≡ written e
    → position (is_key items q) keys ≡ Some i → IsFirstOf made e i
first_from items keys d made q e i same is found =
    let at = position-Some (is_key items q) keys i d found in
    let here : slice_get keys i ≡ Some (get_or keys i d) = slice_get_of keys i d at.0 in (
      tells items keys made q e same is i (get_or keys i d) here at.1,
      λ j l h.
          let s = sees items keys made q e same is j h in
          false≢true (sym (at.2 j l) ∙ ap (is_key items q) (get_or_from_slice_get keys j s.0 d s.1) ∙ s.2),
    )
  where
    slice_get_of : {X : Type 0} (xs : List X) (i : ℕ) (d : X) → i < length xs → slice_get xs i ≡ Some (get_or xs i d)
    slice_get_of [] i d l = absurd (omega arith)
    slice_get_of (x ∷ xs) zero d l = refl
    slice_get_of (x ∷ xs) (suc i) d l = slice_get_of xs i d (omega arith)

none_in : {K : Type 0} (p : K → Bool) (i : ℕ) → position p [] ≡ Some i → ⊥
none_in p i e = cc

pub first_found : {K : Type 0} (items : K → List Sign) (keys : List K) (made : List Made) (q : List Sign) (e : TermTree) (i : ℕ) → map items keys ≡ signs_in made → q ≡ written e
    → position (is_key items q) keys ≡ Some i → IsFirstOf made e i
first_found items [] made q e i same is found = absurd (none_in (is_key items q) i found)
first_found items (k ∷ keys) made q e i same is found = first_from items (k ∷ keys) k made q e i same is found

-- a test that some item passes, and one that none does
any_at : {X : Type 0} (p : X → Bool) (xs : List X) (j : ℕ) (x : X) → slice_get xs j ≡ Some x → p x ≡ true → list_any p xs ≡ true
any_at p [] j x e h = absurd (cc)
any_at p (y ∷ xs) zero x e h = ap (λ b. b || list_any p xs) (ap p (same_Some y x e) ∙ h)
any_at p (y ∷ xs) (suc j) x e h = ap (λ b. p y || b) (any_at p xs j x e h) ∙ or_true (p y)
  where
    or_true : (b : Bool) → (b || true) ≡ true
    or_true true = refl
    or_true false = refl

pub none_found : {K : Type 0} (items : K → List Sign) (keys : List K) (made : List Made) (q : List Sign) (e : TermTree) → map items keys ≡ signs_in made → q ≡ written e
    → list_any (is_key items q) keys ≡ false → HoldsNone made e
none_found items keys made q e same is none j h =
    let s = sees items keys made q e same is j h in
    false≢true (sym none ∙ any_at (is_key items q) keys j s.0 s.1 s.2)

at_any : {X : Type 0} (p : X → Bool) (xs : List X) (b : Bool) → list_any p xs ≡ b → ((j : ℕ) (x : X) → slice_get xs j ≡ Some x → p x ≡ true → ⊥) → list_any p xs ≡ false
at_any p [] b e none = refl
at_any p (x ∷ xs) b e none = by (p x) refl (at_any p xs (list_any p xs) refl (λ j y at. none (suc j) y at))
  where
    by : (b : Bool) → p x ≡ b → list_any p xs ≡ false → list_any p (x ∷ xs) ≡ false
    by true h rest = absurd (none 0 x refl h)
    by false h rest = ap (λ b. b || list_any p xs) h ∙ rest

pub none_among : {K : Type 0} (items : K → List Sign) (keys : List K) (made : List Made) (q : List Sign) (e : TermTree) → map items keys ≡ signs_in made → q ≡ written e
    → HoldsNone made e → list_any (is_key items q) keys ≡ false
none_among items keys made q e same is none =
    at_any (is_key items q) keys (list_any (is_key items q) keys) refl (λ j k at h. none j (tells items keys made q e same is j k at h))

-- the keys with one more
pub keys_more : {K : Type 0} (items : K → List Sign) (keys new : List K) (key : K) (made : List Made) (it : Made) → map items keys ≡ signs_in made → items key ≡ written it.origin
    → HoldsNone made it.origin → new ≡ cond (list_any (is_key items (items key)) keys) keys (keys ++ key ∷ []) → map items new ≡ signs_in (made ++ it ∷ [])
keys_more items keys new key made it same is none e =
    ap (map items) (e ∙ ap (λ b. cond b keys (keys ++ key ∷ [])) (none_among items keys made (items key) it.origin same is none))
    ∙ map-append items keys (key ∷ [])
    ∙ (λ i. same i ++ is i ∷ [])
    ∙ sym (map-append (λ (m : Made). written m.origin) made (it ∷ []))
