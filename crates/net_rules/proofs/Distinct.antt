-- Names of which none stands twice.
use Rattle.std.proofs.Common.{◌≡◌, ℕ, zero, suc, ◌+◌, Bool, true, false, not, cond, ◌||◌, List, [], ◌∷◌, ◌++◌, get_or, take, Option, Some, None, refl, sym, ap, ◌∙◌, subst}
use Rattle.std.specs.Prelude.{slice_get, option_map, is_some}
use Rattle.std.specs.Str.{bytes_eq}
use Rattle.std.proofs.lemmas.Bool.{false≢true}
use Rattle.std.proofs.lemmas.List.{take_more}
use Rattle.std.proofs.lemmas.Slice.Eq.{bytes_eq-Decides}
use Rattle.std.proofs.lemmas.Option.{get_or_from_slice_get, slice_get_within}
use Rattle.name_tables.specs.Names.{is_among, place_of, with_name, AreDistinct}

-- a name is one of some where it is the first or one of the others
pub among : (n : List ℕ) (ns : List (List ℕ)) (name : List ℕ) → is_among (n ∷ ns) name ≡ (bytes_eq name n || is_among ns name)
among n ns name = at (bytes_eq name n) (place_of ns name)
  where
    at : (b : Bool) (o : Option ℕ) → is_some (cond b (Some 0) (option_map (λ (p : ℕ). p + 1) o)) ≡ (b || is_some o)
    at true o = refl
    at false None = refl
    at false (Some p) = refl

neither : (a b : Bool) → (a || b) ≡ false → (a ≡ false) × (b ≡ false)
neither true b e = absurd (false≢true (sym e))
neither false b e = (refl, e)

other_way : (a b : List ℕ) → bytes_eq a b ≡ false → bytes_eq b a ≡ false
other_way a b e = at (bytes_eq b a) refl
  where
    at : (r : Bool) → bytes_eq b a ≡ r → r ≡ false
    at false f = refl
    at true f = absurd (false≢true (sym e ∙ (bytes_eq-Decides a b).1 (sym ((bytes_eq-Decides b a).0 f))))

-- a name that is neither one of some nor the last is not one of all
not_among_more : (ns : List (List ℕ)) (last name : List ℕ) → is_among ns name ≡ false → bytes_eq name last ≡ false → is_among (ns ++ last ∷ []) name ≡ false
not_among_more [] last name a e = among last [] name ∙ ap (λ b. b || false) e
not_among_more (n ∷ ns) last name a e =
    let parts = neither (bytes_eq name n) (is_among ns name) (sym (among n ns name) ∙ a) in
    among n (ns ++ last ∷ []) name ∙ (ap (λ b. b || is_among (ns ++ last ∷ []) name) parts.0 ∙ not_among_more ns last name parts.1 e)

-- one more that is new
distinct_more : (ns : List (List ℕ)) (last : List ℕ) → AreDistinct ns → is_among ns last ≡ false → AreDistinct (ns ++ last ∷ [])
distinct_more [] last d a = (refl, tt)
distinct_more (n ∷ ns) last d a =
    let parts = neither (bytes_eq last n) (is_among ns last) (sym (among n ns last) ∙ a) in
    (not_among_more ns last n d.0 (other_way last n parts.0), distinct_more ns last d.1 parts.1)

or_right : (a b : Bool) → b ≡ true → (a || b) ≡ true
or_right true b e = refl
or_right false b e = e

-- a name that stands at a place is among the names
stands : (ns : List (List ℕ)) (k : ℕ) (name : List ℕ) → slice_get ns k ≡ Some name → is_among ns name ≡ true
stands [] k name f = absurd (cc)
stands (m ∷ ns) zero name f =
    let same : name ≡ m = cc in
    among m ns name ∙ ap (λ b. b || is_among ns name) ((bytes_eq-Decides name m).1 same)
stands (m ∷ ns) (suc k) name f = among m ns name ∙ or_right (bytes_eq name m) (is_among ns name) (stands ns k name f)

-- the next of the names is one of those so far
not_distinct : (names : List (List ℕ)) (i : ℕ) (name : List ℕ) → slice_get names i ≡ Some name → is_among (take i names) name ≡ true → AreDistinct names → ⊥
not_distinct [] i name e a d = absurd (cc)
not_distinct (n ∷ names) zero name e a d = absurd (false≢true a)
not_distinct (n ∷ names) (suc i) name e a d = at (bytes_eq name n) refl (λ rest. not_distinct names i name e rest d.1)
  where
    at : (r : Bool) → bytes_eq name n ≡ r → (is_among (take i names) name ≡ true → ⊥) → ⊥
    at true f later =
        let same : name ≡ n = (bytes_eq-Decides name n).0 f in
        let again : is_among names n ≡ true = subst (λ (m : List ℕ). is_among names m ≡ true) same (stands names i name e) in
        false≢true (sym d.0 ∙ again)
    at false f later = later (sym (ap (λ b. b || is_among (take i names) name) f) ∙ (sym (among n (take i names) name) ∙ a))

flipped : (b c : Bool) → c ≡ not b → c ≡ false → b ≡ true
flipped true c e f = refl
flipped false c e f = absurd (false≢true (sym f ∙ e))

kept : (b c : Bool) → c ≡ not b → c ≡ true → b ≡ false
kept true c e f = absurd (false≢true (sym e ∙ f))
kept false c e f = refl

-- the next of the names is not new among those that are known, which are those so far
pub seen_again : (names known : List (List ℕ)) (i : ℕ) (name : List ℕ) (new : Bool) → slice_get names i ≡ Some name → known ≡ take i names
    → new ≡ not (is_among known name) → new ≡ false → AreDistinct names → ⊥
seen_again names known i name new here same told f d =
    not_distinct names i name here (subst (λ (ns : List (List ℕ)). is_among ns name ≡ true) same (flipped (is_among known name) new told f)) d

-- the next of the names is new, and becomes known
pub new_name : (names known after : List (List ℕ)) (i : ℕ) (name : List ℕ) (new : Bool) → slice_get names i ≡ Some name → known ≡ take i names
    → AreDistinct (take i names) → new ≡ not (is_among known name) → new ≡ true → after ≡ with_name known name
    → (after ≡ take (i + 1) names) × AreDistinct (take (i + 1) names)
new_name names known after i name new here same d told e is =
    let fresh = kept (is_among known name) new told e in
    let within = slice_get_within names i name here in
    let at : get_or names i name ≡ name = get_or_from_slice_get names i name name here in
    let more : take (i + 1) names ≡ take i names ++ name ∷ [] = take_more names i name within ∙ ap (λ (n : List ℕ). take i names ++ n ∷ []) at in
    let added : after ≡ known ++ name ∷ [] = is ∙ ap (λ b. cond b known (known ++ name ∷ [])) fresh in
    let whole : after ≡ take (i + 1) names = added ∙ (ap (λ ns. ns ++ name ∷ []) same ∙ sym more) in
    (whole, subst AreDistinct (sym more) (distinct_more (take i names) name d (subst (λ (ns : List (List ℕ)). is_among ns name ≡ false) same fresh)))
