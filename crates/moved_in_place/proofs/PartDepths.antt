-- A part that is no deeper makes no term deeper.
use Rattle.std.proofs.Common.{◌≡◌, ◌∙◌, ◌≤◌, ℕ, zero, suc, max, true, false, refl, sym, ap, arith, List, [], ◌∷◌, Some}
use Rattle.std.specs.Prelude.{option_map}
use Rattle.chw_terms.specs.Depth.{depth, in_spine, parts_depth, terms_depth, group_depth, alts_depth}
use Rattle.chw_terms.specs.TermTree.{TermTree, var, global, made, lam, app, ty_lam, ty_app, letrec, con, prim, lit, vec_lit, case_of, Terms, no_terms, term_and, Group, no_bindings, bind, Alts, no_alts, alt}
use Rattle.chw_typing.specs.Paths.{child, with_child, with_part, part_of_group, with_side, with_body, element_at, with_element, Branch, branch_at, with_branch}
use Rattle.chw_typing.specs.PartSpines.{is_function, spine_at}
use Rattle.chw_typing.proofs.PartPlaces.{spine_is_part}
use Rattle.chw_typing.proofs.PathParts.{way_to, with_part_below}
use Rattle.moved_in_place.proofs.PutBack.{last_step, earlier_step}

-- deeper parts, deeper spines
spine_grows : (e : TermTree) (n m : ℕ) → n ≤ m → in_spine e n ≤ in_spine e m
spine_grows (var x) n m h = omega (arith, h)
spine_grows (global d) n m h = omega (arith, h)
spine_grows (made k) n m h = omega (arith, h)
spine_grows (lam t e) n m h = omega (arith, h)
spine_grows (app f a) n m h = h
spine_grows (ty_lam k e) n m h = omega (arith, h)
spine_grows (ty_app f t) n m h = h
spine_grows (letrec g e) n m h = omega (arith, h)
spine_grows (con c) n m h = omega (arith, h)
spine_grows (prim p) n m h = omega (arith, h)
spine_grows (lit s b) n m h = omega (arith, h)
spine_grows (vec_lit t es) n m h = omega (arith, h)
spine_grows (case_of e alts) n m h = omega (arith, h)

-- with another child a term adds the same to a spine
same_shape : (e x : TermTree) (i n : ℕ) → in_spine (with_child e i x) n ≡ in_spine e n
same_shape (var y) x i n = refl
same_shape (global d) x i n = refl
same_shape (made m) x i n = refl
same_shape (lam t e) x zero n = refl
same_shape (lam t e) x (suc i) n = refl
same_shape (app f a) x zero n = refl
same_shape (app f a) x (suc zero) n = refl
same_shape (app f a) x (suc (suc i)) n = refl
same_shape (ty_lam k e) x zero n = refl
same_shape (ty_lam k e) x (suc i) n = refl
same_shape (ty_app f t) x zero n = refl
same_shape (ty_app f t) x (suc i) n = refl
same_shape (letrec g e) x i n = refl
same_shape (con c) x i n = refl
same_shape (prim p) x i n = refl
same_shape (lit s b) x i n = refl
same_shape (vec_lit t es) x i n = refl
same_shape (case_of e alts) x zero n = refl
same_shape (case_of e alts) x (suc i) n = refl

-- a child is no deeper, and where it is a function it adds no more to the spine
record IsNoDeeper (e c c' : TermTree) (i : ℕ) : Type 0 where
  parts : parts_depth c' ≤ parts_depth c
  spine : is_function e i ≡ true → in_spine c' (parts_depth c') ≤ in_spine c (parts_depth c)

group_no_deeper : (g : Group) (e c c' : TermTree) (i : ℕ) → part_of_group g e i ≡ Some c → parts_depth c' ≤ parts_depth c
    → max (group_depth (with_side g i c')) (suc (parts_depth (with_body g e i c'))) ≤ max (group_depth g) (suc (parts_depth e))
unfolding parts_depth
group_no_deeper no_bindings e c c' zero is h =
    let same : e ≡ c = cc in
    let deep : parts_depth e ≡ parts_depth c = ap parts_depth same in
    omega (arith, h, deep)
group_no_deeper no_bindings e c c' (suc i) is h = absurd cc
group_no_deeper (bind t s g) e c c' zero is h =
    let same : s ≡ c = cc in
    let deep : parts_depth s ≡ parts_depth c = ap parts_depth same in
    omega (arith, h, deep)
group_no_deeper (bind t s g) e c c' (suc i) is h = let rest = group_no_deeper g e c c' i is h in omega (arith, rest)

elements_no_deeper : (es : Terms) (c c' : TermTree) (i : ℕ) → element_at es i ≡ Some c → parts_depth c' ≤ parts_depth c → terms_depth (with_element es i c') ≤ terms_depth es
unfolding parts_depth
elements_no_deeper no_terms c c' i is h = absurd cc
elements_no_deeper (term_and e es) c c' zero is h =
    let same : e ≡ c = cc in
    let deep : parts_depth e ≡ parts_depth c = ap parts_depth same in
    omega (arith, h, deep)
elements_no_deeper (term_and e es) c c' (suc i) is h = let rest = elements_no_deeper es c c' i is h in omega (arith, rest)

branches_no_deeper : (alts : Alts) (c c' : TermTree) (i : ℕ) → option_map (λ (a : Branch). a.body) (branch_at alts i) ≡ Some c → parts_depth c' ≤ parts_depth c → alts_depth (with_branch alts i c') ≤ alts_depth alts
unfolding parts_depth
branches_no_deeper no_alts c c' i is h = absurd cc
branches_no_deeper (alt q e more) c c' zero is h =
    let same : e ≡ c = cc in
    let deep : parts_depth e ≡ parts_depth c = ap parts_depth same in
    omega (arith, h, deep)
branches_no_deeper (alt q e more) c c' (suc i) is h = let rest = branches_no_deeper more c c' i is h in omega (arith, rest)

child_no_deeper : (e c c' : TermTree) (i : ℕ) → child e i ≡ Some c → IsNoDeeper e c c' i → parts_depth (with_child e i c') ≤ parts_depth e
unfolding parts_depth
child_no_deeper (var x) c c' i is h = absurd cc
child_no_deeper (global d) c c' i is h = absurd cc
child_no_deeper (made m) c c' i is h = absurd cc
child_no_deeper (lam t e) c c' zero is h =
    let same : e ≡ c = cc in
    let deep : parts_depth e ≡ parts_depth c = ap parts_depth same in
    omega (arith, h.parts, deep)
child_no_deeper (lam t e) c c' (suc i) is h = absurd cc
child_no_deeper (app f a) c c' zero is h =
    let same : f ≡ c = cc in
    let deep : in_spine f (parts_depth f) ≡ in_spine c (parts_depth c) = ap (λ r. in_spine r (parts_depth r)) same in
    omega (arith, h.spine refl, deep)
child_no_deeper (app f a) c c' (suc zero) is h =
    let same : a ≡ c = cc in
    let deep : parts_depth a ≡ parts_depth c = ap parts_depth same in
    omega (arith, h.parts, deep)
child_no_deeper (app f a) c c' (suc (suc i)) is h = absurd cc
child_no_deeper (ty_lam k e) c c' zero is h =
    let same : e ≡ c = cc in
    let deep : parts_depth e ≡ parts_depth c = ap parts_depth same in
    omega (arith, h.parts, deep)
child_no_deeper (ty_lam k e) c c' (suc i) is h = absurd cc
child_no_deeper (ty_app f t) c c' zero is h =
    let same : f ≡ c = cc in
    let deep : in_spine f (parts_depth f) ≡ in_spine c (parts_depth c) = ap (λ r. in_spine r (parts_depth r)) same in
    omega (arith, h.spine refl, deep)
child_no_deeper (ty_app f t) c c' (suc i) is h = absurd cc
child_no_deeper (letrec g e) c c' i is h = group_no_deeper g e c c' i is h.parts
child_no_deeper (con k) c c' i is h = absurd cc
child_no_deeper (prim p) c c' i is h = absurd cc
child_no_deeper (lit s b) c c' i is h = absurd cc
child_no_deeper (vec_lit t es) c c' i is h = let rest = elements_no_deeper es c c' i is h.parts in omega (arith, rest)
child_no_deeper (case_of e alts) c c' zero is h =
    let same : e ≡ c = cc in
    let deep : parts_depth e ≡ parts_depth c = ap parts_depth same in
    omega (arith, h.parts, deep)
child_no_deeper (case_of e alts) c c' (suc i) is h = let rest = branches_no_deeper alts c c' i is h.parts in omega (arith, rest)

-- a function with another part in it adds no more
function_no_deeper : (c x y : TermTree) (i : ℕ) (path : List ℕ) (n : ℕ) → child c i ≡ Some y → n ≤ parts_depth c → in_spine (with_part c (i ∷ path) x) n ≤ in_spine c (parts_depth c)
function_no_deeper c x y i path n is h =
    let shape : in_spine (with_part c (i ∷ path) x) n ≡ in_spine c n = ap (λ f. in_spine f n) (with_part_below c y x i path is) ∙ same_shape c (with_part y path x) i n in
    omega (arith, shape, spine_grows c n (parts_depth c) h)

part_no_deeper : (path : List ℕ) (e x y : TermTree) → spine_at e path ≡ Some x → parts_depth y ≤ parts_depth x → parts_depth (with_part e path y) ≤ parts_depth e
part_no_deeper [] e x y h d =
    let same : e ≡ x = cc in
    let deep : parts_depth e ≡ parts_depth x = ap parts_depth same in
    omega (arith, d, deep)
part_no_deeper (i ∷ []) e x y h d =
    let s = last_step e x i h in
    let no : is_function e i ≡ true → in_spine y (parts_depth y) ≤ in_spine x (parts_depth x) = λ f. let both : true ≡ false = sym f ∙ s.apart in absurd cc in
    let whole : parts_depth (with_part e (i ∷ []) y) ≡ parts_depth (with_child e i y) = ap parts_depth (with_part_below e x y i [] s.is) in
    omega (arith, whole, child_no_deeper e x y i s.is (record { parts = d; spine = no }))
part_no_deeper (i ∷ j ∷ path) e x y h d =
    let s = earlier_step e x i j path h in
    let c' = with_part s.to (j ∷ path) y in
    let below = part_no_deeper (j ∷ path) s.to x y s.spine d in
    let next = way_to (child s.to j) path x (spine_is_part (j ∷ path) s.to x s.spine) in
    let whole : parts_depth (with_part e (i ∷ j ∷ path) y) ≡ parts_depth (with_child e i c') = ap parts_depth (with_part_below e s.to y i (j ∷ path) s.is) in
    omega (arith, whole, child_no_deeper e s.to c' i s.is (record { parts = below; spine = λ f. function_no_deeper s.to y next.to j path (parts_depth c') next.is below }))

pub depth_no_deeper : (path : List ℕ) (e x y : TermTree) → spine_at e path ≡ Some x → depth y ≤ depth x → depth (with_part e path y) ≤ depth e
depth_no_deeper path e x y h d = let all = part_no_deeper path e x y h (omega (arith, d)) in omega (arith, all)
