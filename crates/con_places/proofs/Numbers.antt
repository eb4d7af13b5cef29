-- Constructors by their numbers.
use Rattle.std.proofs.Common.{◌≡◌, ℕ, suc, zero, ◌+◌, ◌≤◌, refl, ap, ◌∙◌, List, [], ◌∷◌, length, Some, None, arith}
use Rattle.std.specs.List.{slice_get}
use Rattle.std.proofs.lemmas.Option.{none-some, same_Some, slice_get_past}
use Rattle.chw_types.specs.declared.declarations.ConDecl.{ConDecl}
use Rattle.chw_types.specs.declared.declarations.Data.{Data}
use Rattle.chw_terms.specs.Constructors.{Constructor, cons_of, constructors_from, con_at, first_con}

-- a constructor stands among those of its data type, before others
cons_here : (d : ℕ) (it : Data) (ks : List ConDecl) (others : List Constructor) (j : ℕ) (k : ConDecl) → slice_get ks j ≡ Some k
    → slice_get (cons_of d it ks others) j ≡ Some (record { of = d; it = it; decl = k })
cons_here d it [] others j k e = absurd (none-some k e)
cons_here d it (c ∷ ks) others zero k e = ap (λ (x : ConDecl). Some (record { of = d; it = it; decl = x })) (same_Some c k e)
cons_here d it (c ∷ ks) others (suc j) k e = cons_here d it ks others j k e

-- and the others behind
cons_behind : (d : ℕ) (it : Data) (ks : List ConDecl) (others : List Constructor) (j : ℕ) → slice_get (cons_of d it ks others) (length ks + j) ≡ slice_get others j
cons_behind d it [] others j = let e : 0 + j ≡ j = omega arith in ap (slice_get others) e
cons_behind d it (c ∷ ks) others j =
    let e : length (c ∷ ks) + j ≡ suc (length ks + j) = omega arith in
    ap (slice_get (cons_of d it (c ∷ ks) others)) e ∙ cons_behind d it ks others j

pub first_con_start : (datas : List Data) → first_con datas zero ≡ 0
first_con_start [] = refl
first_con_start (x ∷ more) = refl

stands_from : (datas : List Data) (d k o j : ℕ) (it : Data) (decl : ConDecl) → slice_get datas k ≡ Some it → slice_get it.cons j ≡ Some decl → o ≡ d + k
    → slice_get (constructors_from d datas) (first_con datas k + j) ≡ Some (record { of = o; it = it; decl = decl })
stands_from [] d k o j it decl e h s = absurd (none-some it e)
stands_from (x ∷ more) d zero o j it decl e h s =
    let same : x ≡ it = same_Some x it e in
    let number : 0 + j ≡ j = omega arith in
    let of : d ≡ o = omega arith in
    let here : slice_get x.cons j ≡ Some decl = ap (λ (y : Data). slice_get y.cons j) same ∙ h in
    ap (slice_get (constructors_from d (x ∷ more))) number ∙ cons_here d x x.cons (constructors_from (suc d) more) j decl here
    ∙ (λ i. Some (record { of = of i; it = same i; decl = decl }))
stands_from (x ∷ more) d (suc k) o j it decl e h s =
    let number : length x.cons + first_con more k + j ≡ length x.cons + (first_con more k + j) = omega arith in
    let of : o ≡ suc d + k = omega arith in
    ap (slice_get (constructors_from d (x ∷ more))) number ∙ cons_behind d x x.cons (constructors_from (suc d) more) (first_con more k + j)
    ∙ stands_from more (suc d) k o j it decl e h of

-- the constructor at a place of a data type has the number after those of the data types before and those before it
pub stands : (datas : List Data) (n k j : ℕ) (it : Data) (decl : ConDecl) → slice_get datas k ≡ Some it → slice_get it.cons j ≡ Some decl
    → n ≡ first_con datas k + j → con_at datas n ≡ Some (record { of = k; it = it; decl = decl })
stands datas n k j it decl e h number =
    let of : k ≡ 0 + k = omega arith in ap (con_at datas) number ∙ stands_from datas zero k k j it decl e h of

length_cons_of : (d : ℕ) (it : Data) (ks : List ConDecl) (others : List Constructor) → length (cons_of d it ks others) ≡ length ks + length others
length_cons_of d it [] others = omega arith
length_cons_of d it (c ∷ ks) others = let rest = length_cons_of d it ks others in omega arith

length_from : (d : ℕ) (datas : List Data) → length (constructors_from d datas) ≡ first_con datas (length datas)
length_from d [] = refl
length_from d (x ∷ more) = length_cons_of d x x.cons (constructors_from (suc d) more) ∙ ap (λ n. length x.cons + n) (length_from (suc d) more)

-- there are no others
pub none_stands : (datas : List Data) (n : ℕ) → first_con datas (length datas) ≤ n → con_at datas n ≡ None
none_stands datas n l = let count = length_from zero datas in slice_get_past (constructors_from zero datas) n (omega arith)

-- the first constructor of the next data type comes after those of this one
pub first_con_next : (datas : List Data) (k : ℕ) (it : Data) → slice_get datas k ≡ Some it → first_con datas (suc k) ≡ first_con datas k + length it.cons
first_con_next [] k it e = absurd (none-some it e)
first_con_next (x ∷ more) zero it e =
    let start = first_con_start more in
    let same : length x.cons ≡ length it.cons = ap (λ (y : Data). length y.cons) (same_Some x it e) in
    let none : first_con (x ∷ more) zero ≡ 0 = refl in
    let next : first_con (x ∷ more) (suc zero) ≡ length x.cons + first_con more zero = refl in
    omega arith
first_con_next (x ∷ more) (suc k) it e =
    let rest = first_con_next more k it e in
    let next : first_con (x ∷ more) (suc (suc k)) ≡ length x.cons + first_con more (suc k) = refl in
    let here : first_con (x ∷ more) (suc k) ≡ length x.cons + first_con more k = refl in
    omega arith
