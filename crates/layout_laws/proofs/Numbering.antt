-- Constructors stand at the places that their numbers say.
use Rattle.std.proofs.Common.{◌≡◌, ℕ, suc, zero, ◌+◌, ◌⊎◌, inl, inr, refl, sym, ap, subst, ◌∙◌, List, [], ◌∷◌, length, Some, arith}
use Rattle.std.specs.List.{slice_get}
use Rattle.std.proofs.lemmas.Option.{none-some, same_Some}
use Rattle.chw_types.specs.declared.declarations.ConDecl.{ConDecl}
use Rattle.chw_types.specs.declared.declarations.Data.{Data}
use Rattle.chw_terms.specs.Constructors.{Constructor, cons_of, constructors_from, con_at, first_con}
use Rattle.chw_layout.specs.Encodes.{first_constructor}
use Rattle.layout_laws.specs.Numbering.{HasPlace}

-- a constructor among these of a data type, or behind them
abbrev Among : ℕ → Data → List ConDecl → ℕ → Constructor → Type 0
Among d it ks c k = (k.of ≡ d) × (k.it ≡ it) × (slice_get ks c ≡ Some k.decl)

abbrev Behind : List ConDecl → List Constructor → ℕ → Constructor → Type 0
Behind ks others c k = (m : ℕ) × (c ≡ length ks + m) × (slice_get others m ≡ Some k)

among_or_behind : (d : ℕ) (it : Data) (ks : List ConDecl) (others : List Constructor) (c : ℕ) (k : Constructor) → slice_get (cons_of d it ks others) c ≡ Some k → Among d it ks c k ⊎ Behind ks others c k
among_or_behind d it [] others c k e = let number : c ≡ 0 + c = omega arith in inr (c, number, e)
among_or_behind d it (x ∷ ks) others zero k e =
    let is : record { of = d; it = it; decl = x } ≡ k = same_Some (record { of = d; it = it; decl = x }) k e in
    inl (ap (λ y. y.of) (sym is), ap (λ y. y.it) (sym is), ap (λ y. Some y.decl) is)
among_or_behind d it (x ∷ ks) others (suc c) k e =
    elim (among_or_behind d it ks others c k e) as (λ _. Among d it (x ∷ ks) (suc c) k ⊎ Behind (x ∷ ks) others (suc c) k) [
      | inl h ↦ inl h
      | inr h ↦ inr (h.0, next h.0 h.1, h.2)
    ]
  where
    next : (m : ℕ) → c ≡ length ks + m → suc c ≡ length (x ∷ ks) + m
    next m e = omega arith

-- a constructor of this number, where the first data type has the number `start`
record PlaceFrom (start : ℕ) (datas : List Data) (c : ℕ) (k : Constructor) : Type 0 where
  data_number : ℕ
  place : ℕ
  of : k.of ≡ start + data_number
  in_datas : slice_get datas data_number ≡ Some k.it
  in_cons : slice_get k.it.cons place ≡ Some k.decl
  number : c ≡ first_con datas data_number + place

place_from : (start : ℕ) (datas : List Data) (c : ℕ) (k : Constructor) → slice_get (constructors_from start datas) c ≡ Some k → PlaceFrom start datas c k
place_from start [] c k e = absurd (none-some k e)
place_from start (it ∷ more) c k e =
    elim (among_or_behind start it it.cons (constructors_from (suc start) more) c k e) as (λ _. PlaceFrom start (it ∷ more) c k) [
      | inl h ↦ record {
        data_number = zero;
        place = c;
        of = omega (arith, h.0);
        in_datas = ap (λ x. Some x) (sym h.1);
        in_cons = subst (λ (x : Data). slice_get x.cons c ≡ Some k.decl) (sym h.1) h.2;
        number = omega arith;
      }
      | inr h ↦ next h.0 h.1 (place_from (suc start) more h.0 k h.2)
    ]
  where
    next : (m : ℕ) → c ≡ length it.cons + m → PlaceFrom (suc start) more m k → PlaceFrom start (it ∷ more) c k
    next m e p =
        let first : first_con (it ∷ more) (suc p.data_number) ≡ length it.cons + first_con more p.data_number = refl in
        record { data_number = suc p.data_number; place = p.place; of = omega (arith, p.of); in_datas = p.in_datas; in_cons = p.in_cons; number = omega (arith, p.number) }

pub has_place : (datas : List Data) (c : ℕ) (k : Constructor) → con_at datas c ≡ Some k → HasPlace datas c k
has_place datas c k e =
    let p = place_from zero datas c k e in
    let same : p.data_number ≡ k.of = omega (arith, p.of) in
    record {
      place = p.place;
      in_datas = subst (λ d. slice_get datas d ≡ Some k.it) same p.in_datas;
      in_cons = p.in_cons;
      number = subst (λ d. c ≡ first_con datas d + p.place) same p.number;
    }

-- at each place of a data type stands its constructor
within : (d : ℕ) (it : Data) (ks : List ConDecl) (others : List Constructor) (i : ℕ) (x : ConDecl) → slice_get ks i ≡ Some x → slice_get (cons_of d it ks others) i ≡ Some (record { of = d; it = it; decl = x })
within d it [] others i x e = absurd (none-some x e)
within d it (y ∷ ks) others zero x e = ap (λ (z : ConDecl). Some (record { of = d; it = it; decl = z })) (same_Some y x e)
within d it (y ∷ ks) others (suc i) x e = within d it ks others i x e

behind : (d : ℕ) (it : Data) (ks : List ConDecl) (others : List Constructor) (m : ℕ) → slice_get (cons_of d it ks others) (length ks + m) ≡ slice_get others m
behind d it [] others m = let e : 0 + m ≡ m = omega arith in ap (slice_get others) e
behind d it (x ∷ ks) others m =
    let e : length (x ∷ ks) + m ≡ suc (length ks + m) = omega arith in
    ap (slice_get (cons_of d it (x ∷ ks) others)) e ∙ behind d it ks others m

stands_from : (start : ℕ) (datas : List Data) (d of i : ℕ) (it : Data) (x : ConDecl) → slice_get datas d ≡ Some it → slice_get it.cons i ≡ Some x → of ≡ start + d
    → slice_get (constructors_from start datas) (first_con datas d + i) ≡ Some (record { of = of; it = it; decl = x })
stands_from start [] d of i it x e f o = absurd (none-some it e)
stands_from start (y ∷ more) zero of i it x e f o =
    let same : y ≡ it = same_Some y it e in
    let number : 0 + i ≡ i = omega arith in
    let here : start ≡ of = omega arith in
    let found : slice_get y.cons i ≡ Some x = ap (λ (z : Data). slice_get z.cons i) same ∙ f in
    ap (slice_get (constructors_from start (y ∷ more))) number
    ∙ within start y y.cons (constructors_from (suc start) more) i x found
    ∙ (λ j. Some (record { of = here j; it = same j; decl = x }))
stands_from start (y ∷ more) (suc d) of i it x e f o =
    let number : length y.cons + first_con more d + i ≡ length y.cons + (first_con more d + i) = omega arith in
    let later : of ≡ suc start + d = omega arith in
    ap (slice_get (constructors_from start (y ∷ more))) number
    ∙ behind start y y.cons (constructors_from (suc start) more) (first_con more d + i)
    ∙ stands_from (suc start) more d of i it x e f later

pub at_place : (datas : List Data) (c : ℕ) (k : Constructor) → HasPlace datas c k → con_at datas c ≡ Some k
at_place datas c k h =
    let of : k.of ≡ 0 + k.of = omega arith in
    ap (con_at datas) h.number ∙ stands_from zero datas k.of k.of h.place k.it k.decl h.in_datas h.in_cons of

pub one_numbering : (datas : List Data) (d : ℕ) → first_constructor datas d ≡ first_con datas d
one_numbering [] d = refl
one_numbering (it ∷ more) zero = refl
one_numbering (it ∷ more) (suc d) = ap (λ n. length it.cons + n) (one_numbering more d)
