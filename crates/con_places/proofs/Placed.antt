-- The places of constructors.
use Rattle.std.proofs.Common.{◌≡◌, ℕ, suc, zero, ◌+◌, ◌<◌, ◌≤◌, ◌⊎◌, inl, inr, refl, sym, ap, ◌∙◌, subst, List, [], ◌∷◌, ◌++◌, length, get_or, Some, None, true, ltb, arith, append_assoc, length-append}
use Rattle.std.specs.List.{slice_get}
use Rattle.std.proofs.lemmas.Bool.{ltb-true}
use Rattle.std.proofs.lemmas.Option.{none-some, same_Some, slice_get_within, slice_get_read, get_or_from_slice_get}
use Rattle.chw_types.specs.declared.declarations.ConDecl.{ConDecl}
use Rattle.chw_types.specs.declared.declarations.Data.{Data}
use Rattle.chw_terms.specs.Constructors.{con_at, first_con}
use Rattle.con_places.specs.declared.table.Place.{Place}
use Rattle.con_places.specs.Places.{StandsAt, AreOfFirst, places_of}
use Rattle.con_places.proofs.Numbers.{stands, none_stands, first_con_start, first_con_next}

-- an item of two lists one after another stands in one of them
split : {A : Type 0} (xs ys : List A) (n : ℕ) (p : A) → slice_get (xs ++ ys) n ≡ Some p
    → (slice_get xs n ≡ Some p) ⊎ ((j : ℕ) × (n ≡ length xs + j) × (slice_get ys j ≡ Some p))
split [] ys n p e = let number : n ≡ 0 + n = omega arith in inr (n, number, e)
split (x ∷ xs) ys zero p e = inl e
split (x ∷ xs) ys (suc n) p e = by (split xs ys n p e)
  where
    by : (slice_get xs n ≡ Some p) ⊎ ((j : ℕ) × (n ≡ length xs + j) × (slice_get ys j ≡ Some p))
        → (slice_get xs n ≡ Some p) ⊎ ((j : ℕ) × (suc n ≡ length (x ∷ xs) + j) × (slice_get ys j ≡ Some p))
    by (inl h) = inl h
    by (inr h) =
        let j : ℕ = h.0 in
        let at : n ≡ length xs + j = h.1 in
        let number : suc n ≡ length (x ∷ xs) + j = omega arith in
        inr (j, number, h.2)

pub length_places : (of m : ℕ) → length (places_of of m) ≡ m
length_places of zero = refl
length_places of (suc m) = length-append (places_of of m) (record { of = of; place = m } ∷ []) ∙ (let rest = length_places of m in omega arith)

-- the place of a constructor of a data type
abbrev at_place : ℕ → ℕ → Place
at_place of j = record { of = of; place = j }

alone : (x p : Place) (j : ℕ) → slice_get (x ∷ []) j ≡ Some p → (j ≡ 0) × (p ≡ x)
alone x p zero e = (refl, sym (same_Some x p e))
alone x p (suc j) e = absurd (none-some p e)

placed_in : (of m j : ℕ) (p : Place) → slice_get (places_of of m) j ≡ Some p → (j < m) × (p ≡ at_place of j)
placed_in of zero j p e = absurd (none-some p e)
placed_in of (suc m) j p e = by (placed_in of m j p) (split (places_of of m) (at_place of m ∷ []) j p e)
  where
    by : (slice_get (places_of of m) j ≡ Some p → (j < m) × (p ≡ at_place of j))
        → (slice_get (places_of of m) j ≡ Some p) ⊎ ((k : ℕ) × (j ≡ length (places_of of m) + k) × (slice_get (at_place of m ∷ []) k ≡ Some p))
        → (j < suc m) × (p ≡ at_place of j)
    by rest (inl h) = let last = rest h in (omega (arith, last.0), last.1)
    by rest (inr h) =
        let here = alone (at_place of m) p h.0 h.2 in
        let count = length_places of m in
        let number : j ≡ m = omega (arith, here.0, h.1) in
        (omega arith, here.1 ∙ ap (at_place of) (sym number))

-- one more place of a data type
pub one_more : (old now next : List Place) (of k : ℕ) → now ≡ old ++ places_of of k → next ≡ now ++ at_place of k ∷ [] → next ≡ old ++ places_of of (k + 1)
one_more old now next of k h e =
    let number : suc k ≡ k + 1 = omega arith in
    e ∙ ap (λ (ps : List Place). ps ++ at_place of k ∷ []) h ∙ append_assoc old (places_of of k) (at_place of k ∷ []) ∙ ap (λ n. old ++ places_of of n) number

-- what stands at a place
there : {A : Type 0} (xs : List A) (j : ℕ) → j < length xs → (x : A) × (slice_get xs j ≡ Some x)
there [] j l = absurd (omega arith)
there (x ∷ xs) zero l = (x, refl)
there (x ∷ xs) (suc j) l = there xs j (omega arith)

-- no data types have no constructors
pub none_placed : (datas : List Data) → AreOfFirst datas 0 []
none_placed datas = record { each = λ n p e. absurd (none-some p e); all = sym (first_con_start datas) }

-- those of one more data type behind those of the first ones
pub more_placed : (datas : List Data) (i : ℕ) (it : Data) (places next : List Place) → slice_get datas i ≡ Some it → AreOfFirst datas i places
    → next ≡ places ++ places_of i (length it.cons) → AreOfFirst datas (i + 1) next
more_placed datas i it places next at first e = subst (AreOfFirst datas (i + 1)) (sym e) (record { each = each; all = all })
  where
    all : length (places ++ places_of i (length it.cons)) ≡ first_con datas (i + 1)
    all =
        let number : i + 1 ≡ suc i = omega arith in
        length-append places (places_of i (length it.cons)) ∙ (λ k. first.all k + length_places i (length it.cons) k) ∙ sym (first_con_next datas i it at)
        ∙ ap (first_con datas) (sym number)

    by : (n : ℕ) (p : Place) → (slice_get places n ≡ Some p) ⊎ ((j : ℕ) × (n ≡ length places + j) × (slice_get (places_of i (length it.cons)) j ≡ Some p))
        → StandsAt datas n p
    by n p (inl h) = first.each n p h
    by n p (inr h) =
        let here = placed_in i (length it.cons) h.0 p h.2 in
        let con = there it.cons h.0 here.0 in
        subst (StandsAt datas n) (sym here.1)
        (record { it = it; decl = con.0; in_datas = at; in_cons = con.1; number = h.1 ∙ ap (λ k. k + h.0) first.all })

    each : (n : ℕ) (p : Place) → slice_get (places ++ places_of i (length it.cons)) n ≡ Some p → StandsAt datas n p
    each n p h = by n p (split places (places_of i (length it.cons)) n p h)

-- a place that was read from the table
pub read : (datas : List Data) (all places : List Place) (n : ℕ) (p : Place) → AreOfFirst datas (length datas) all → places ≡ all → true ≡ ltb n (length places)
    → p ≡ get_or places n p → StandsAt datas n p
read datas all places n p first same within is =
    first.each n p (subst (λ (ps : List Place). slice_get ps n ≡ Some p) same (slice_get_read places (length places) n p refl (ltb-true _ _ (sym within)) is))

-- a constructor that is found, by what was read
pub found : (datas : List Data) (n : ℕ) (p : Place) (it d : Data) (decl e : ConDecl) → StandsAt datas n p → it ≡ get_or datas p.of d
    → decl ≡ get_or it.cons p.place e → con_at datas n ≡ Some (record { of = p.of; it = it; decl = decl })
found datas n p it d decl e s is at =
    let same : it ≡ s.it = is ∙ get_or_from_slice_get datas p.of s.it d s.in_datas in
    let here : slice_get it.cons p.place ≡ Some s.decl = ap (λ (y : Data). slice_get y.cons p.place) same ∙ s.in_cons in
    let con : decl ≡ s.decl = at ∙ get_or_from_slice_get it.cons p.place s.decl e here in
    stands datas n p.of p.place it decl (s.in_datas ∙ ap (λ (y : Data). Some y) (sym same)) (here ∙ ap (λ (y : ConDecl). Some y) (sym con)) s.number

-- its data type is there
pub in_datas : (datas : List Data) (n : ℕ) (p : Place) → StandsAt datas n p → p.of < length datas
in_datas datas n p s = slice_get_within datas p.of s.it s.in_datas

-- and it is one of that data type's
pub in_cons : (datas : List Data) (n : ℕ) (p : Place) (it d : Data) → StandsAt datas n p → it ≡ get_or datas p.of d → p.place < length it.cons
in_cons datas n p it d s is =
    let same : it ≡ s.it = is ∙ get_or_from_slice_get datas p.of s.it d s.in_datas in
    slice_get_within it.cons p.place s.decl (ap (λ (y : Data). slice_get y.cons p.place) same ∙ s.in_cons)

-- where no place is, no constructor is
pub none_found : (datas : List Data) (n : ℕ) (places : List Place) → AreOfFirst datas (length datas) places → length places ≤ n → con_at datas n ≡ None
none_found datas n places all l = let count = all.all in none_stands datas n (omega arith)
