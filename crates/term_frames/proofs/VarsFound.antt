-- The types of the variables in scope, by their numbers.
use Rattle.std.proofs.Common.{◌≡◌, ℕ, suc, zero, ◌+◌, ◌-◌, ◌<◌, ◌≤◌, refl, sym, ap, ◌∙◌, List, [], ◌∷◌, ◌++◌, map, length, reverse, get_or, arith}
use Rattle.std.specs.Prelude.{Option, Some, None}
use Rattle.std.specs.List.{slice_get}
use Rattle.std.proofs.lemmas.List.{get_or-reverse, length-reverse, length-map, map-append}
use Rattle.chw_types.specs.declared.kind.Kind.{Kind}
use Rattle.chw_types.specs.TypeTree.{TypeTree}
use Rattle.chw_types.specs.TypeMoves.{rename, raised, shift}
use Rattle.chw_types.proofs.TypeLaws.{same, rename_rename}
use Rattle.chw_terms.specs.declared.term.Binding.{Binding}
use Rattle.chw_typing.specs.Scopes.{under_binder, with_more}
use Rattle.term_frames.specs.VarsView.{IsAt}
use Rattle.seen_types.specs.declared.found.Found.{Found}
use Rattle.chw_typing.proofs.Lists.{found_in_map, map_reverse}

-- the types as they are seen under so many more type binders
abbrev pub raised_all : ℕ → List TypeTree → List TypeTree
raised_all by ts = map (λ t. shift t 0 by) ts

pub read_at : {A : Type 0} (xs : List A) (n : ℕ) (x d : A) → n < length xs → x ≡ get_or xs n d → slice_get xs n ≡ Some x
read_at [] n x d l e = absurd (omega arith)
read_at (y ∷ xs) zero x d l e = ap Some (sym e)
read_at (y ∷ xs) (suc n) x d l e = read_at xs n x d (omega arith) e

pub missing_at : {A : Type 0} (xs : List A) (n : ℕ) → length xs ≤ n → slice_get xs n ≡ None
missing_at [] n l = refl
missing_at (y ∷ xs) zero l = absurd (omega arith)
missing_at (y ∷ xs) (suc n) l = missing_at xs n (omega arith)

read_reversed : {A : Type 0} (xs : List A) (n : ℕ) (x : A) → n < length xs → x ≡ get_or xs (length xs - 1 - n) x → slice_get (reverse xs) n ≡ Some x
read_reversed xs n x l e = read_at (reverse xs) n x x (omega (arith, length-reverse xs)) (e ∙ sym (get_or-reverse xs n x l))

left_at : {A : Type 0} (xs ys : List A) (n : ℕ) → n < length xs → slice_get (xs ++ ys) n ≡ slice_get xs n
left_at [] ys n l = absurd (omega arith)
left_at (x ∷ xs) ys zero l = refl
left_at (x ∷ xs) ys (suc n) l = left_at xs ys n (omega arith)

right_at : {A : Type 0} (xs ys : List A) (n : ℕ) → length xs ≤ n → slice_get (xs ++ ys) n ≡ slice_get ys (n - length xs)
right_at [] ys n l = let e : n ≡ n - 0 = omega arith in ap (slice_get ys) e
right_at (x ∷ xs) ys zero l = absurd (omega arith)
right_at (x ∷ xs) ys (suc n) l = let e : n - length xs ≡ suc n - suc (length xs) = omega arith in right_at xs ys n (omega arith) ∙ ap (slice_get ys) e

-- under one more type binder
pub raised_under : (ts : List TypeTree) (by : ℕ) → raised_all (by + 1) ts ≡ raised_all by (under_binder ts)
raised_under [] by = refl
raised_under (t ∷ ts) by = λ i. (sym (rename_rename t (raised 0 1) (raised 0 by) ∙ ap (rename t) (same (λ x. x + 1 + by) (raised 0 (by + 1)) (λ x. omega arith)))) i ∷ raised_under ts by i

pub later_raised : (t : TypeTree) (ts : List TypeTree) (n : ℕ) → (n ≡ 0 → ⊥) → slice_get ts (n - 1) ≡ slice_get (t ∷ ts) n
later_raised t ts zero h = absurd (h refl)
later_raised t ts (suc n) h = let e : suc n - 1 ≡ n = omega arith in ap (slice_get ts) e

raised_more : (new ts : List TypeTree) (by : ℕ) → raised_all by (with_more new ts) ≡ raised_all by (reverse new) ++ raised_all by ts
raised_more new ts by = map-append (λ t. shift t 0 by) (reverse new) ts

raised_length : (new : List TypeTree) (by : ℕ) → length (raised_all by (reverse new)) ≡ length new
raised_length new by = length-map (reverse new) (λ t. shift t 0 by) ∙ length-reverse new

-- one of the variables that are bound together
pub inner_raised : (new ts : List TypeTree) (n by : ℕ) → n < length new → slice_get (raised_all by (reverse new)) n ≡ slice_get (raised_all by (with_more new ts)) n
inner_raised new ts n by l =
    sym (ap (λ us. slice_get us n) (raised_more new ts by) ∙ left_at (raised_all by (reverse new)) (raised_all by ts) n (omega (arith, raised_length new by)))

-- one further out
pub outer_raised : (new ts : List TypeTree) (n by : ℕ) → length new ≤ n → slice_get (raised_all by ts) (n - length new) ≡ slice_get (raised_all by (with_more new ts)) n
outer_raised new ts n by l =
    sym (ap (λ us. slice_get us n) (raised_more new ts by)
    ∙ right_at (raised_all by (reverse new)) (raised_all by ts) n (omega (arith, raised_length new by))
    ∙ ap (λ m. slice_get (raised_all by ts) (n - m)) (raised_length new by))

abbrev pub types_of : List Binding → List TypeTree
types_of bs = map (λ b. b.ty) bs

-- what is found among others is found, where the items at both places are the same
pub at_moved : (ts us : List TypeTree) (ks ls : List Kind) (m n : ℕ) (r : Option Found) → slice_get ts m ≡ slice_get us n → slice_get ks m ≡ slice_get ls n → IsAt ts ks m r → IsAt us ls n r
at_moved ts us ks ls m n (Some f) e d h = (sym e ∙ h.0, sym d ∙ h.1)
at_moved ts us ks ls m n None e d h = sym e ∙ h

type_bound : {A : Type 0} (f : A → TypeTree) (bs : List A) (ts : List TypeTree) (n by : ℕ) (b : A) → n < length bs → b ≡ get_or bs (length bs - 1 - n) b → slice_get (raised_all by (with_more (map f bs) ts)) n ≡ Some (shift (f b) 0 by)
type_bound f bs ts n by b l is =
    sym (inner_raised (map f bs) ts n by (omega (arith, length-map bs f)))
    ∙ found_in_map (λ t. shift t 0 by) (reverse (map f bs)) n (f b) (ap (λ us. slice_get us n) (sym (map_reverse f bs)) ∙ found_in_map f (reverse bs) n b (read_reversed bs n b l is))

kind_bound : {A : Type 0} (g : A → Kind) (bs : List A) (ks : List Kind) (n : ℕ) (b : A) → n < length bs → b ≡ get_or bs (length bs - 1 - n) b → slice_get (reverse (map g bs) ++ ks) n ≡ Some (g b)
kind_bound g bs ks n b l is =
    left_at (reverse (map g bs)) ks n (omega (arith, length-reverse (map g bs), length-map bs g))
    ∙ ap (λ us. slice_get us n) (sym (map_reverse g bs))
    ∙ found_in_map g (reverse bs) n b (read_reversed bs n b l is)

-- one of the variables that are bound together
pub at_bound : {A : Type 0} (f : A → TypeTree) (g : A → Kind) (bs : List A) (ts : List TypeTree) (ks : List Kind) (n by : ℕ) (b : A) (r : Found) → n < length bs → b ≡ get_or bs (length bs - 1 - n) b → r.ty ≡ shift (f b) 0 by → r.kind ≡ g b → IsAt (raised_all by (with_more (map f bs) ts)) (reverse (map g bs) ++ ks) n (Some r)
at_bound f g bs ts ks n by b r l is e d = (type_bound f bs ts n by b l is ∙ ap Some (sym e), kind_bound g bs ks n b l is ∙ ap Some (sym d))

-- one further out
pub at_past : {A : Type 0} (f : A → TypeTree) (g : A → Kind) (bs : List A) (ts : List TypeTree) (ks : List Kind) (n by : ℕ) (r : Option Found) → length bs ≤ n → IsAt (raised_all by ts) ks (n - length bs) r → IsAt (raised_all by (with_more (map f bs) ts)) (reverse (map g bs) ++ ks) n r
at_past f g bs ts ks n by r l h =
    let types = length-map bs f in
    let kinds = length-reverse (map g bs) ∙ length-map bs g in
    at_moved (raised_all by ts) (raised_all by (with_more (map f bs) ts)) ks (reverse (map g bs) ++ ks) (n - length bs) n r
    (ap (λ m. slice_get (raised_all by ts) (n - m)) (sym types) ∙ outer_raised (map f bs) ts n by (omega (arith, types, l)))
    (ap (λ m. slice_get ks (n - m)) (sym kinds) ∙ sym (right_at (reverse (map g bs)) ks n (omega (arith, kinds, l)))) h

pub none_at : (by n : ℕ) (ks : List Kind) → IsAt (raised_all by []) ks n None
none_at by n ks = refl
