-- The numbers by which variables are stored, and their indices.
use Rattle.std.proofs.Common.{◌≡◌, ◌∙◌, ◌<◌, ◌≤◌, ◌+◌, ◌-◌, ℕ, zero, suc, ap, sym, refl, arith, List, [], ◌∷◌, ◌++◌, length, reverse, get_or, Some, if◌then◌else◌, inl, inr, lt-ltb, le-ltb, append_assoc, length-append}
use Rattle.std.proofs.lemmas.Bool.{cases_lt}
use Rattle.std.proofs.lemmas.List.{length-reverse, get_or-reverse}
use Rattle.std.proofs.lemmas.Option.{slice_get_within}
use Rattle.std.specs.List.{slice_get}
use Rattle.chw_types.specs.TypeMoves.{Renaming, raised}
use Rattle.chw_types.proofs.TypeLaws.{same}
use Rattle.open_letrec.specs.declared.places.Places.{Places}
use Rattle.open_letrec.specs.declared.places.Stand.TheVariants.{Settled, Waiting}
use Rattle.open_letrec.specs.declared.places.TheConstants.{OUTSIDE}
use Rattle.open_letrec.specs.Places.{ids_of, number_in, number_of, index_at, index_of, Agrees, IsGrown}

-- in the first part of the ids
number_first : (ws rs : List ℕ) (x d : ℕ) → x < length ws → number_in (ws ++ rs) x ≡ get_or ws x d
number_first [] rs x d h = absurd (omega (arith, h))
number_first (w ∷ ws) rs zero d h = refl
number_first (w ∷ ws) rs (suc x) d h = number_first ws rs x d (omega (arith, h))

-- behind it
number_next : (ws rs : List ℕ) (x : ℕ) → length ws ≤ x → number_in (ws ++ rs) x ≡ number_in rs (x - length ws)
number_next [] rs x h = let e : x ≡ x - 0 = omega arith in ap (number_in rs) e
number_next (w ∷ ws) rs zero h = absurd (omega (arith, h))
number_next (w ∷ ws) rs (suc x) h =
    let e : x - length ws ≡ suc x - suc (length ws) = omega arith in
    number_next ws rs x (omega (arith, h)) ∙ ap (number_in rs) e

number_within : (ids : List ℕ) (x d : ℕ) → x < length ids → number_in ids x ≡ get_or ids x d
number_within [] x d h = absurd (omega (arith, h))
number_within (w ∷ ids) zero d h = refl
number_within (w ∷ ids) (suc x) d h = number_within ids x d (omega (arith, h))

number_past : (ids : List ℕ) (x : ℕ) → length ids ≤ x → number_in ids x ≡ OUTSIDE + (x - length ids)
number_past [] x h = let e : x ≡ x - 0 = omega arith in ap (λ n. OUTSIDE + n) e
number_past (w ∷ ids) zero h = absurd (omega (arith, h))
number_past (w ∷ ids) (suc x) h =
    let e : x - length ids ≡ suc x - suc (length ids) = omega arith in
    number_past ids x (omega (arith, h)) ∙ ap (λ n. OUTSIDE + n) e

-- the same where the bindings stand
pub number_waiting : (p : Places) (x d : ℕ) → x < length p.waiting.items → number_of p x ≡ get_or p.waiting.items x d
number_waiting p x d h = number_first p.waiting.items (reverse p.settled.items) x d h

pub number_settled : (p : Places) (x y d : ℕ) → length p.waiting.items ≤ x → y ≡ x - length p.waiting.items → y < length p.settled.items → number_of p x ≡ get_or p.settled.items (length p.settled.items - 1 - y) d
number_settled p x y d h e k =
    let s = p.settled.items in
    number_next p.waiting.items (reverse s) x h ∙ ap (number_in (reverse s)) (sym e)
    ∙ number_within (reverse s) y d (omega (arith, k, length-reverse s)) ∙ get_or-reverse s y d k

pub number_outside : (p : Places) (x y : ℕ) → length p.waiting.items ≤ x → y ≡ x - length p.waiting.items → length p.settled.items ≤ y → number_of p x ≡ OUTSIDE + (y - length p.settled.items)
number_outside p x y h e k =
    let s = p.settled.items in
    number_next p.waiting.items (reverse s) x h ∙ ap (number_in (reverse s)) (sym e)
    ∙ number_past (reverse s) y (omega (arith, k, length-reverse s)) ∙ ap (λ n. OUTSIDE + (y - n)) (length-reverse s)

pub length_ids : (p : Places) → length (ids_of p) ≡ length p.waiting.items + length p.settled.items
length_ids p = length-append p.waiting.items (reverse p.settled.items) ∙ ap (λ n. length p.waiting.items + n) (length-reverse p.settled.items)

-- the index of a number
pub index_inside : (p : Places) (x : ℕ) → x < OUTSIDE → index_of p x ≡ index_at (length (ids_of p)) (slice_get p.stands.items x) x
index_inside p x h =
    let n = length (ids_of p) in
    ap (λ b. if b then index_at n (slice_get p.stands.items x) x else x - OUTSIDE + n) (lt-ltb x OUTSIDE h)

pub index_outside : (p : Places) (x : ℕ) → OUTSIDE ≤ x → index_of p x ≡ x - OUTSIDE + length (ids_of p)
index_outside p x h =
    let n = length (ids_of p) in
    ap (λ b. if b then index_at n (slice_get p.stands.items x) x else x - OUTSIDE + n) (le-ltb x OUTSIDE h)

-- what is stored has the index that it had
pub index_number : (p : Places) → Agrees p → ◌≡◌ {A = Renaming} (λ x. index_of p (number_of p x)) (λ x. x)
index_number p a = same _ _ at
  where
    stood : (id x y : ℕ) (stand : _) → number_of p x ≡ id → slice_get p.stands.items id ≡ Some stand → index_at (length (ids_of p)) (Some stand) id ≡ y → index_of p (number_of p x) ≡ y
    stood id x y stand q there is =
        ap (index_of p) q ∙ index_inside p id (omega (arith, slice_get_within p.stands.items id stand there, a.few)) ∙ ap (λ o. index_at (length (ids_of p)) o id) there ∙ is

    waits : (x : ℕ) → x < length p.waiting.items → index_of p (number_of p x) ≡ x
    waits x h = stood (get_or p.waiting.items x 0) x x (Waiting x) (number_waiting p x 0 h) (a.waiting x h) refl

    settled : (x y : ℕ) → length p.waiting.items ≤ x → y ≡ x - length p.waiting.items → y < length p.settled.items → index_of p (number_of p x) ≡ x
    settled x y h e k =
        let place = length p.settled.items - 1 - y in
        stood (get_or p.settled.items place 0) x x (Settled place) (number_settled p x y 0 h e k) (a.settled place (omega (arith, k))) (omega (arith, h, e, k, length_ids p))

    outside : (x y : ℕ) → length p.waiting.items ≤ x → y ≡ x - length p.waiting.items → length p.settled.items ≤ y → index_of p (number_of p x) ≡ x
    outside x y h e k =
        let z = OUTSIDE + (y - length p.settled.items) in
        ap (index_of p) (number_outside p x y h e k) ∙ index_outside p z (omega arith) ∙ omega (arith, h, e, k, length_ids p)

    behind : (x y : ℕ) → length p.waiting.items ≤ x → y ≡ x - length p.waiting.items → index_of p (number_of p x) ≡ x
    behind x y h e = elim (cases_lt y (length p.settled.items)) [ inl k ↦ settled x y h e k | inr k ↦ outside x y h e k ]

    at : (x : ℕ) → index_of p (number_of p x) ≡ x
    at x = elim (cases_lt x (length p.waiting.items)) [ inl h ↦ waits x h | inr h ↦ behind x (x - length p.waiting.items) h refl ]

-- the law of what joins: a variable from outside of the ids that came, and of those of the bindings that wait, is raised
number_raised : (ws ids rs : List ℕ) (x : ℕ) → number_in (ws ++ (ids ++ rs)) (raised (length ws) (length ids) x) ≡ number_in (ws ++ rs) x
number_raised [] ids rs x =
    let e : x + length ids - length ids ≡ x = omega arith in
    number_next ids rs (x + length ids) (omega arith) ∙ ap (number_in rs) e
number_raised (w ∷ ws) ids rs zero = refl
number_raised (w ∷ ws) ids rs (suc x) = number_raised ws ids rs x

pub number_grown : (p p' : Places) (m : ℕ) → IsGrown p p' m → ◌≡◌ {A = Renaming} (λ x. number_of p' (raised (length p.waiting.items) m x)) (number_of p)
number_grown p p' m (ids, many, more) =
    let ws = p.waiting.items in
    let rs = reverse p.settled.items in
    let now : ids_of p' ≡ ws ++ (ids ++ rs) = (λ i. more.waiting i ++ reverse (more.settled i)) ∙ append_assoc ws ids rs in
    same _ _ (λ x. (λ i. number_in (now i) (raised (length ws) (sym many i) x)) ∙ number_raised ws ids rs x)
