-- How the answers of searches for a variable are joined.
use Rattle.std.proofs.Common.{◌≡◌, ℕ, suc, ◌+◌, ◌-◌, ◌<◌, ◌≤◌, ◌^◌, min, Bool, true, false, ◌||◌, ◌==◌, List, [], ◌∷◌, length, drop, get_or, refl, sym, ap, ◌∙◌, arith, subst, inl, inr, eqb-true}
use Rattle.std.proofs.lemmas.Bool.Decides.{leb_tells}
use Rattle.std.proofs.lemmas.List.{drop_all}
use Rattle.chw_types.specs.TypeTree.{TypeTree}
use Rattle.chw_terms.specs.declared.term.Binding.{Binding}
use Rattle.chw_terms.specs.declared.term.Alt.{Alt}
use Rattle.chw_terms.specs.declared.term.Arg.{Arg}
use Rattle.chw_terms.specs.declared.term.Arg.TheVariants.{OfTerm, OfType}
use Rattle.chw_terms.specs.TermTree.{TermTree, var, lam, app, ty_app, letrec, case_of, vec_lit, size_of}
use Rattle.chw_terms.specs.TermView.{terms_of, group_of, alts_of, applied}
use Rattle.chw_terms.specs.Occurs.{occurs, occurs_all, occurs_group, occurs_alts}
use Rattle.chw_terms.specs.Sought.{Found, Agree, any_of, NoneBefore, occurs_in, occurs_in_binding, occurs_in_alt}
use Rattle.chw_terms.proofs.Spines.{left_with_next}
use Rattle.chw_terms.proofs.TermLists.{size_of_group}

-- an answer is one for each test that agrees
pub found_by : (f g : ℕ → Bool) (v : ℕ) (r : Bool) → Agree f g v → Found g v r → Found f v r
found_by f g v true a p = (a.0 ∙ p.0, p.1)
found_by f g v false a p = (a.0 ∙ p.0, λ w h. a.1 w h ∙ p.1 w h)

-- and for each test that is the same everywhere
pub found_same : (f g : ℕ → Bool) (v : ℕ) (r : Bool) → ((w : ℕ) → f w ≡ g w) → Found g v r → Found f v r
found_same f g v r h = found_by f g v r (h v, λ w q. h w)

-- the first of two tests holds
pub found_first : (one rest : ℕ → Bool) (v : ℕ) → Found one v true → Found (λ w. one w || rest w) v true
found_first one rest v p = (ap (λ b. b || rest v) p.0, p.1)

-- the first of two tests fails
pub agree_rest : (one rest : ℕ → Bool) (v : ℕ) → Found one v false → Agree (λ w. one w || rest w) rest v
agree_rest one rest v p = (ap (λ b. b || rest v) p.0, λ w h. ap (λ b. b || rest w) (p.1 w h))

pub found_rest : (one rest : ℕ → Bool) (v : ℕ) (r : Bool) → Found one v false → Found rest v r → Found (λ w. one w || rest w) v r
found_rest one rest v r p = found_by (λ w. one w || rest w) rest v r (agree_rest one rest v p)

or_turned : (a b : Bool) → (a || b) ≡ (b || a)
or_turned true true = refl
or_turned true false = refl
or_turned false true = refl
or_turned false false = refl

or_through : (a b c : Bool) → ((a || b) || c) ≡ (a || (b || c))
or_through true b c = refl
or_through false b c = refl

-- a variable
pub found_var : (n v : ℕ) (r : Bool) → n < 2 ^ 32 → r ≡ (n == v) → Found (occurs (var n)) v r
unfolding occurs
found_var n v true small e = let same : n ≡ v = eqb-true n v (sym e) in (sym e, omega (arith, small, same))
found_var n v false small e = (sym e, λ w h. other w h (n == w) refl)
  where
    other : (w : ℕ) → 2 ^ 32 ≤ w → (b : Bool) → b ≡ (n == w) → b ≡ false
    other w h true q = let same : n ≡ w = eqb-true n w (sym q) in absurd (omega (arith, h, small, same))
    other w h false q = refl

-- under so many binders
pub found_deeper : (f : ℕ → Bool) (n v inner : ℕ) (r : Bool) → inner ≡ min (v + n) (2 ^ 64 - 1) → Found f inner r → Found (λ w. f (w + n)) v r
found_deeper f n v inner true e p =
    let here : v + n ≡ inner = omega (arith, e, p.1) in (ap f here ∙ p.0, omega (arith, e, p.1))
found_deeper f n v inner false e p = (at_place, λ w h. p.1 (w + n) (omega (arith, h)))
  where
    at_place : f (v + n) ≡ false
    at_place = elim (leb_tells (2 ^ 32) (v + n)) [
      | inl great ↦ p.1 (v + n) great.1
      | inr small ↦ (let here : v + n ≡ inner = omega (arith, e, small.1) in ap f here ∙ p.0)
    ]

-- a search among items: it begins, passes an item, ends at one, or finds none
pub none_at_first : {X : Type 0} (p : X → ℕ → Bool) (xs : List X) (v : ℕ) → NoneBefore p xs 0 v
none_at_first p xs v = (refl, λ w h. refl)

pub none_at_next : {X : Type 0} (p : X → ℕ → Bool) (xs : List X) (i : ℕ) (x : X) (v : ℕ) → i < length xs → x ≡ get_or xs i x → NoneBefore p xs i v → Found (p x) v false → NoneBefore p xs (i + 1) v
none_at_next p xs i x v h e a q =
    let here = left_with_next xs i x h e in
    let rest : Agree (any_of p (x ∷ drop (i + 1) xs)) (any_of p (drop (i + 1) xs)) v = agree_rest (p x) (any_of p (drop (i + 1) xs)) v q in
    (a.0 ∙ ap (λ ys. any_of p ys v) here ∙ rest.0, λ w g. a.1 w g ∙ ap (λ ys. any_of p ys w) here ∙ rest.1 w g)

pub found_at : {X : Type 0} (p : X → ℕ → Bool) (xs : List X) (i : ℕ) (x : X) (v : ℕ) → i < length xs → x ≡ get_or xs i x → NoneBefore p xs i v → Found (p x) v true → Found (any_of p xs) v true
found_at p xs i x v h e a q =
    let first = found_first (p x) (any_of p (drop (i + 1) xs)) v q in
    (a.0 ∙ ap (λ ys. any_of p ys v) (left_with_next xs i x h e) ∙ first.0, first.1)

pub found_none : {X : Type 0} (p : X → ℕ → Bool) (xs : List X) (i v : ℕ) → length xs ≤ i → NoneBefore p xs i v → Found (any_of p xs) v false
found_none p xs i v h a =
    (a.0 ∙ ap (λ ys. any_of p ys v) (drop_all i xs h), λ w g. a.1 w g ∙ ap (λ ys. any_of p ys w) (drop_all i xs h))

-- a head and its arguments
spine_occurs : (e : TermTree) (args : List Arg) (v : ℕ) → occurs (applied e args) v ≡ (occurs e v || any_of occurs_in args v)
unfolding occurs
spine_occurs e [] v = or_turned false (occurs e v)
spine_occurs e (OfTerm a ∷ args) v = spine_occurs (app e a) args v ∙ or_through (occurs e v) (occurs a v) (any_of occurs_in args v)
spine_occurs e (OfType t ∷ args) v = spine_occurs (ty_app e t) args v

pub found_head : (e : TermTree) (args : List Arg) (v : ℕ) → Found (occurs e) v true → Found (occurs (applied e args)) v true
found_head e args v p = found_same (occurs (applied e args)) (λ w. occurs e w || any_of occurs_in args w) v true (spine_occurs e args) (found_first (occurs e) (any_of occurs_in args) v p)

pub found_args : (e : TermTree) (args : List Arg) (v : ℕ) (r : Bool) → Found (occurs e) v false → Found (any_of occurs_in args) v r → Found (occurs (applied e args)) v r
found_args e args v r p q = found_same (occurs (applied e args)) (λ w. occurs e w || any_of occurs_in args w) v r (spine_occurs e args) (found_rest (occurs e) (any_of occurs_in args) v r p q)

pub found_lam : (t : TypeTree) (e : TermTree) (v inner : ℕ) (r : Bool) → inner ≡ min (v + 1) (2 ^ 64 - 1) → Found (occurs e) inner r → Found (occurs (lam t e)) v r
unfolding occurs
found_lam t e v inner r same p = found_same (occurs (lam t e)) (λ w. occurs e (w + 1)) v r (λ w. ap (occurs e) (next w)) (found_deeper (occurs e) 1 v inner r same p)
  where
    next : (w : ℕ) → suc w ≡ w + 1
    next w = omega arith

-- a letrec, whose body is searched first
letrec_occurs : (bs : List Binding) (e : TermTree) (v : ℕ) → occurs (letrec (group_of bs) e) v ≡ (occurs e (v + length bs) || any_of occurs_in_binding bs (v + length bs))
unfolding occurs
letrec_occurs bs e v =
    or_turned (occurs_group (group_of bs) (v + size_of (group_of bs))) (occurs e (v + size_of (group_of bs)))
    ∙ (λ i. occurs e (v + size_of_group bs i) || each bs (v + size_of_group bs i) i)
  where
    each : (bs : List Binding) (w : ℕ) → occurs_group (group_of bs) w ≡ any_of occurs_in_binding bs w
    each [] w = refl
    each (b ∷ bs) w = ap (λ r. occurs b.body w || r) (each bs w)

pub found_body : (bs : List Binding) (e : TermTree) (v inner : ℕ) → inner ≡ min (v + length bs) (2 ^ 64 - 1) → Found (occurs e) inner true → Found (occurs (letrec (group_of bs) e)) v true
found_body bs e v inner same p =
    found_same (occurs (letrec (group_of bs) e)) (λ w. occurs e (w + length bs) || any_of occurs_in_binding bs (w + length bs)) v true (letrec_occurs bs e)
    (found_deeper (λ w. occurs e w || any_of occurs_in_binding bs w) (length bs) v inner true same (found_first (occurs e) (any_of occurs_in_binding bs) inner p))

pub found_group : (bs : List Binding) (e : TermTree) (v inner : ℕ) (r : Bool) → inner ≡ min (v + length bs) (2 ^ 64 - 1) → Found (occurs e) inner false → Found (any_of occurs_in_binding bs) inner r → Found (occurs (letrec (group_of bs) e)) v r
found_group bs e v inner r same p q =
    found_same (occurs (letrec (group_of bs) e)) (λ w. occurs e (w + length bs) || any_of occurs_in_binding bs (w + length bs)) v r (letrec_occurs bs e)
    (found_deeper (λ w. occurs e w || any_of occurs_in_binding bs w) (length bs) v inner r same (found_rest (occurs e) (any_of occurs_in_binding bs) inner r p q))

pub found_elements : (t : TypeTree) (es : List TermTree) (v : ℕ) (r : Bool) → Found (any_of occurs es) v r → Found (occurs (vec_lit t (terms_of es))) v r
unfolding occurs
found_elements t es v r = found_same (occurs (vec_lit t (terms_of es))) (any_of occurs es) v r (each es)
  where
    each : (es : List TermTree) (w : ℕ) → occurs_all (terms_of es) w ≡ any_of occurs es w
    each [] w = refl
    each (e ∷ es) w = ap (λ r. occurs e w || r) (each es w)

case_occurs : (s : TermTree) (alts : List Alt) (v : ℕ) → occurs (case_of s (alts_of alts)) v ≡ (occurs s v || any_of occurs_in_alt alts v)
unfolding occurs
case_occurs s alts v = ap (λ r. occurs s v || r) (each alts)
  where
    each : (alts : List Alt) → occurs_alts (alts_of alts) v ≡ any_of occurs_in_alt alts v
    each [] = refl
    each (a ∷ more) = ap (λ r. occurs_in_alt a v || r) (each more)

pub found_scrutinee : (s : TermTree) (alts : List Alt) (v : ℕ) → Found (occurs s) v true → Found (occurs (case_of s (alts_of alts))) v true
found_scrutinee s alts v p = found_same (occurs (case_of s (alts_of alts))) (λ w. occurs s w || any_of occurs_in_alt alts w) v true (case_occurs s alts) (found_first (occurs s) (any_of occurs_in_alt alts) v p)

pub found_alts : (s : TermTree) (alts : List Alt) (v : ℕ) (r : Bool) → Found (occurs s) v false → Found (any_of occurs_in_alt alts) v r → Found (occurs (case_of s (alts_of alts))) v r
found_alts s alts v r p q = found_same (occurs (case_of s (alts_of alts))) (λ w. occurs s w || any_of occurs_in_alt alts w) v r (case_occurs s alts) (found_rest (occurs s) (any_of occurs_in_alt alts) v r p q)

-- the answer alone
pub found_is : (f : ℕ → Bool) (v : ℕ) (r : Bool) → Found f v r → r ≡ f v
found_is f v true p = sym p.0
found_is f v false p = sym p.0

-- an answer by what a test told
pub found_told : (f : ℕ → Bool) (v : ℕ) (r s : Bool) → r ≡ s → Found f v r → Found f v s
found_told f v r s e = subst (Found f v) e
