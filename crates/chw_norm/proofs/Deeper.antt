-- How deep a term becomes where another part is put at a path.
use Rattle.std.proofs.Common.{◌≡◌, ◌⊎◌, inl, inr, ℕ, zero, suc, ◌+◌, ◌≤◌, max, refl, ap, arith}
use Rattle.std.proofs.Common.{List, [], ◌∷◌, length, Option, Some, None}
use Rattle.std.specs.Prelude.{option_map, unwrap_or}
use Rattle.chw_terms.specs.Depth.{depth, in_spine, parts_depth, terms_depth, group_depth}
use Rattle.chw_terms.specs.Depth.{alts_depth}
use Rattle.chw_terms.specs.TermTree.{TermTree, var, global, made, lam, app, ty_lam, ty_app, letrec}
use Rattle.chw_terms.specs.TermTree.{con, prim, lit, vec_lit, case_of, Terms, no_terms, term_and}
use Rattle.chw_terms.specs.TermTree.{Group, no_bindings, bind, Alts, no_alts, alt}
use Rattle.chw_typing.specs.Paths.{child, with_child, with_part, part_of_group, with_side}
use Rattle.chw_typing.specs.Paths.{with_body, element_at, with_element, Branch, branch_at}
use Rattle.chw_typing.specs.Paths.{with_branch}

-- a child in another one's place, of which the parts are so deep, and what it adds as a function
record IsChanged (c c' : TermTree) (most : ℕ) : Type 0 where
  parts : parts_depth c' ≤ max (parts_depth c) most
  spine : in_spine c' (parts_depth c') ≤ max (in_spine c (parts_depth c)) (suc most)

-- what a function adds to the parts of the spine
at_most_one : (e : TermTree) (n : ℕ) → in_spine e n ≤ suc n
at_most_one (var x) n = omega arith
at_most_one (global d) n = omega arith
at_most_one (made m) n = omega arith
at_most_one (lam t e) n = omega arith
at_most_one (app f a) n = omega arith
at_most_one (ty_lam k e) n = omega arith
at_most_one (ty_app f t) n = omega arith
at_most_one (letrec g e) n = omega arith
at_most_one (con c) n = omega arith
at_most_one (prim p) n = omega arith
at_most_one (lit s b) n = omega arith
at_most_one (vec_lit t es) n = omega arith
at_most_one (case_of e alts) n = omega arith

-- it adds nothing, or one level, whatever the depth
adds : (e : TermTree) → ((n : ℕ) → in_spine e n ≡ n) ⊎ ((n : ℕ) → in_spine e n ≡ suc n)
adds (var x) = inr (λ n. refl)
adds (global d) = inr (λ n. refl)
adds (made m) = inr (λ n. refl)
adds (lam t e) = inr (λ n. refl)
adds (app f a) = inl (λ n. refl)
adds (ty_lam k e) = inr (λ n. refl)
adds (ty_app f t) = inl (λ n. refl)
adds (letrec g e) = inr (λ n. refl)
adds (con c) = inr (λ n. refl)
adds (prim p) = inr (λ n. refl)
adds (lit s b) = inr (λ n. refl)
adds (vec_lit t es) = inr (λ n. refl)
adds (case_of e alts) = inr (λ n. refl)

-- with another child a term adds the same
same_shape : (e x : TermTree) (i n : ℕ) → in_spine (with_child e i x) n ≡ in_spine e n
same_shape (var y) x i n = refl
same_shape (global d) x i n = refl
same_shape (made m) x i n = refl
same_shape (lam t e) x zero n = refl
same_shape (lam t e) x (suc i) n = refl
same_shape (app f a) x zero n = refl
same_shape (app f a) x (suc zero) n = refl
same_shape (app f a) x (suc (suc i)) n = refl
same_shape (ty_lam k e) x zero n = refl
same_shape (ty_lam k e) x (suc i) n = refl
same_shape (ty_app f t) x zero n = refl
same_shape (ty_app f t) x (suc i) n = refl
same_shape (letrec g e) x i n = refl
same_shape (con c) x i n = refl
same_shape (prim p) x i n = refl
same_shape (lit s b) x i n = refl
same_shape (vec_lit t es) x i n = refl
same_shape (case_of e alts) x zero n = refl
same_shape (case_of e alts) x (suc i) n = refl

-- so with another part behind a child
still : (e x : TermTree) (i : ℕ) (path : List ℕ) (n : ℕ)
    → in_spine (with_part e (i ∷ path) x) n ≡ in_spine e n
still e x i path n = by (child e i)
  where
    by : (o : Option TermTree)
        → in_spine (unwrap_or (option_map (λ c. with_child e i (with_part c path x)) o) e) n ≡
        in_spine e n
    by None = refl
    by (Some c) = same_shape e (with_part c path x) i n

-- a function with another part in it
function_changed : (path : List ℕ) (c x : TermTree)
    → parts_depth (with_part c path x) ≤ max (parts_depth c) (length path + parts_depth x)
    → in_spine (with_part c path x) (parts_depth (with_part c path x)) ≤ max
    (in_spine c (parts_depth c)) (suc (length path + parts_depth x))
function_changed [] c x h = omega (arith, at_most_one x (parts_depth x))
function_changed (i ∷ path) c x h =
    by (adds c) (still c x i path (parts_depth (with_part c (i ∷ path) x)))
  where
    by : ((n : ℕ) → in_spine c n ≡ n) ⊎ ((n : ℕ) → in_spine c n ≡ suc n)
        → in_spine (with_part c (i ∷ path) x) (parts_depth (with_part c (i ∷ path) x)) ≡ in_spine c
        (parts_depth (with_part c (i ∷ path) x))
        → in_spine (with_part c (i ∷ path) x) (parts_depth (with_part c (i ∷ path) x)) ≤ max
        (in_spine c (parts_depth c)) (suc (length (i ∷ path) + parts_depth x))
    by (inl none) same =
        omega (arith, h, same, none (parts_depth c), none (parts_depth (with_part c (i ∷ path) x)))
    by (inr one) same =
        omega (arith, h, same, one (parts_depth c), one (parts_depth (with_part c (i ∷ path) x)))

-- a letrec with another right side, or another body
group_changed : (g : Group) (e c c' : TermTree) (i most : ℕ) → part_of_group g e i ≡ Some c
    → IsChanged c c' most
    → max (group_depth (with_side g i c')) (suc (parts_depth (with_body g e i c'))) ≤ max
    (max (group_depth g) (suc (parts_depth e))) (suc most)
unfolding parts_depth
group_changed no_bindings e c c' zero most is h =
    let same : e ≡ c = cc in
    let deep : parts_depth e ≡ parts_depth c = ap parts_depth same in
    omega (arith, h.parts, deep)
group_changed no_bindings e c c' (suc i) most is h = absurd cc
group_changed (bind t s g) e c c' zero most is h =
    let same : s ≡ c = cc in
    let deep : parts_depth s ≡ parts_depth c = ap parts_depth same in
    omega (arith, h.parts, deep)
group_changed (bind t s g) e c c' (suc i) most is h =
    omega (arith, group_changed g e c c' i most is h)

-- a vector with another element
elements_changed : (es : Terms) (c c' : TermTree) (i most : ℕ) → element_at es i ≡ Some c
    → IsChanged c c' most → terms_depth (with_element es i c') ≤ max (terms_depth es) (suc most)
unfolding parts_depth
elements_changed no_terms c c' i most is h = absurd cc
elements_changed (term_and e es) c c' zero most is h =
    let same : e ≡ c = cc in
    let deep : parts_depth e ≡ parts_depth c = ap parts_depth same in
    omega (arith, h.parts, deep)
elements_changed (term_and e es) c c' (suc i) most is h =
    omega (arith, elements_changed es c c' i most is h)

-- a case with another alternative
branches_changed : (alts : Alts) (c c' : TermTree) (i most : ℕ)
    → option_map (λ (a : Branch). a.body) (branch_at alts i) ≡ Some c → IsChanged c c' most
    → alts_depth (with_branch alts i c') ≤ max (alts_depth alts) (suc most)
unfolding parts_depth
branches_changed no_alts c c' i most is h = absurd cc
branches_changed (alt q e more) c c' zero most is h =
    let same : e ≡ c = cc in
    let deep : parts_depth e ≡ parts_depth c = ap parts_depth same in
    omega (arith, h.parts, deep)
branches_changed (alt q e more) c c' (suc i) most is h =
    omega (arith, branches_changed more c c' i most is h)

-- a term with another child
child_changed : (e c c' : TermTree) (i most : ℕ) → child e i ≡ Some c → IsChanged c c' most
    → parts_depth (with_child e i c') ≤ max (parts_depth e) (suc most)
unfolding parts_depth
child_changed (var x) c c' i most is h = absurd cc
child_changed (global d) c c' i most is h = absurd cc
child_changed (made m) c c' i most is h = absurd cc
child_changed (lam t e) c c' zero most is h =
    let same : e ≡ c = cc in
    let deep : parts_depth e ≡ parts_depth c = ap parts_depth same in
    omega (arith, h.parts, deep)
child_changed (lam t e) c c' (suc i) most is h = absurd cc
child_changed (app f a) c c' zero most is h =
    let same : f ≡ c = cc in
    let deep : in_spine f (parts_depth f) ≡ in_spine c (parts_depth c) = ap
    (λ r. in_spine r (parts_depth r)) same in
    omega (arith, h.spine, deep)
child_changed (app f a) c c' (suc zero) most is h =
    let same : a ≡ c = cc in
    let deep : parts_depth a ≡ parts_depth c = ap parts_depth same in
    omega (arith, h.parts, deep)
child_changed (app f a) c c' (suc (suc i)) most is h = absurd cc
child_changed (ty_lam k e) c c' zero most is h =
    let same : e ≡ c = cc in
    let deep : parts_depth e ≡ parts_depth c = ap parts_depth same in
    omega (arith, h.parts, deep)
child_changed (ty_lam k e) c c' (suc i) most is h = absurd cc
child_changed (ty_app f t) c c' zero most is h =
    let same : f ≡ c = cc in
    let deep : in_spine f (parts_depth f) ≡ in_spine c (parts_depth c) = ap
    (λ r. in_spine r (parts_depth r)) same in
    omega (arith, h.spine, deep)
child_changed (ty_app f t) c c' (suc i) most is h = absurd cc
child_changed (letrec g e) c c' i most is h = group_changed g e c c' i most is h
child_changed (con k) c c' i most is h = absurd cc
child_changed (prim p) c c' i most is h = absurd cc
child_changed (lit s b) c c' i most is h = absurd cc
child_changed (vec_lit t es) c c' i most is h = omega (arith, elements_changed es c c' i most is h)
child_changed (case_of e alts) c c' zero most is h =
    let same : e ≡ c = cc in
    let deep : parts_depth e ≡ parts_depth c = ap parts_depth same in
    omega (arith, h.parts, deep)
child_changed (case_of e alts) c c' (suc i) most is h =
    omega (arith, branches_changed alts c c' i most is h)

below_changed : (i : ℕ) (path : List ℕ) (e x : TermTree) (o : Option TermTree) → child e i ≡ o
    → ((c : TermTree) → parts_depth (with_part c path x) ≤ max (parts_depth c)
    (length path + parts_depth x))
    → parts_depth (unwrap_or (option_map (λ c. with_child e i (with_part c path x)) o) e) ≤ max
    (parts_depth e) (length (i ∷ path) + parts_depth x)
below_changed i path e x None is below = omega arith
below_changed i path e x (Some c) is below =
    let changed : IsChanged c (with_part c path x) (length path + parts_depth x) = record
    { parts = below c; spine = function_changed path c x (below c) } in
    omega (arith, child_changed e c (with_part c path x) i (length path + parts_depth x) is changed)

part_changed : (path : List ℕ) (e x : TermTree)
    → parts_depth (with_part e path x) ≤ max (parts_depth e) (length path + parts_depth x)
part_changed [] e x = omega arith
part_changed (i ∷ path) e x = below_changed i path e x (child e i) refl (λ c. part_changed path c x)

-- a path has a number for each level at least, so the term is as deep as it was, or as the part at
-- the path's end
pub depth_changed : (path : List ℕ) (e x : TermTree)
    → depth (with_part e path x) ≤ max (depth e) (length path + depth x)
depth_changed path e x = omega (arith, part_changed path e x)
