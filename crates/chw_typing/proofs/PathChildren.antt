-- The children of a term with another child in one place.
use Rattle.std.proofs.Common.{◌≡◌, ◌≢◌, ℕ, zero, suc, refl, ap, Some}
use Rattle.std.specs.Prelude.{option_map}
use Rattle.chw_terms.specs.TermTree.{TermTree, lam, app, ty_lam, ty_app, letrec, vec_lit, case_of, Terms, no_terms, term_and, Group, no_bindings, bind, Alts, no_alts, alt}
use Rattle.chw_typing.specs.Paths.{element_at, with_element, part_of_group, with_side, with_body, branch_at, with_branch, child, with_child}

element_of_with : (es : Terms) (i : ℕ) (c x : TermTree) → element_at es i ≡ Some c → element_at (with_element es i x) i ≡ Some x
element_of_with no_terms i c x h = absurd cc
element_of_with (term_and e es) zero c x h = refl
element_of_with (term_and e es) (suc i) c x h = element_of_with es i c x h

part_of_with_group : (g : Group) (b : TermTree) (i : ℕ) (c x : TermTree) → part_of_group g b i ≡ Some c → part_of_group (with_side g i x) (with_body g b i x) i ≡ Some x
part_of_with_group no_bindings b zero c x h = refl
part_of_with_group no_bindings b (suc i) c x h = absurd cc
part_of_with_group (bind t e g) b zero c x h = refl
part_of_with_group (bind t e g) b (suc i) c x h = part_of_with_group g b i c x h

branch_of_with : (alts : Alts) (i : ℕ) (c x : TermTree) → option_map (λ a. a.body) (branch_at alts i) ≡ Some c → option_map (λ a. a.body) (branch_at (with_branch alts i x) i) ≡ Some x
branch_of_with no_alts i c x h = absurd cc
branch_of_with (alt q e more) zero c x h = refl
branch_of_with (alt q e more) (suc i) c x h = branch_of_with more i c x h

pub child_of_with_child : (e c x : TermTree) (i : ℕ) → child e i ≡ Some c → child (with_child e i x) i ≡ Some x
child_of_with_child (lam t e) c x zero h = refl
child_of_with_child (ty_lam k e) c x zero h = refl
child_of_with_child (app f a) c x zero h = refl
child_of_with_child (app f a) c x (suc zero) h = refl
child_of_with_child (ty_app f t) c x zero h = refl
child_of_with_child (letrec g e) c x i h = part_of_with_group g e i c x h
child_of_with_child (vec_lit t es) c x i h = element_of_with es i c x h
child_of_with_child (case_of e alts) c x zero h = refl
child_of_with_child (case_of e alts) c x (suc i) h = branch_of_with alts i c x h
child_of_with_child _ c x _ h = absurd cc

with_same_element : (es : Terms) (i : ℕ) (c : TermTree) → element_at es i ≡ Some c → with_element es i c ≡ es
with_same_element no_terms i c h = refl
with_same_element (term_and e es) zero c h = let is : c ≡ e = cc in ap (λ x. term_and x es) is
with_same_element (term_and e es) (suc i) c h = ap (term_and e) (with_same_element es i c h)

with_same_side : (g : Group) (b : TermTree) (i : ℕ) (c : TermTree) → part_of_group g b i ≡ Some c → with_side g i c ≡ g
with_same_side no_bindings b i c h = refl
with_same_side (bind t e g) b zero c h = let is : c ≡ e = cc in ap (λ x. bind t x g) is
with_same_side (bind t e g) b (suc i) c h = ap (bind t e) (with_same_side g b i c h)

with_same_body : (g : Group) (b : TermTree) (i : ℕ) (c : TermTree) → part_of_group g b i ≡ Some c → with_body g b i c ≡ b
with_same_body no_bindings b zero c h = cc
with_same_body no_bindings b (suc i) c h = refl
with_same_body (bind t e g) b zero c h = refl
with_same_body (bind t e g) b (suc i) c h = with_same_body g b i c h

with_same_branch : (alts : Alts) (i : ℕ) (c : TermTree) → option_map (λ a. a.body) (branch_at alts i) ≡ Some c → with_branch alts i c ≡ alts
with_same_branch no_alts i c h = refl
with_same_branch (alt q e more) zero c h = let is : c ≡ e = cc in ap (λ x. alt q x more) is
with_same_branch (alt q e more) (suc i) c h = ap (alt q e) (with_same_branch more i c h)

pub with_same_child : (e c : TermTree) (i : ℕ) → child e i ≡ Some c → with_child e i c ≡ e
with_same_child (lam t e) c zero h = let is : c ≡ e = cc in ap (lam t) is
with_same_child (ty_lam k e) c zero h = let is : c ≡ e = cc in ap (ty_lam k) is
with_same_child (app f a) c zero h = let is : c ≡ f = cc in ap (λ x. app x a) is
with_same_child (app f a) c (suc zero) h = let is : c ≡ a = cc in ap (app f) is
with_same_child (ty_app f t) c zero h = let is : c ≡ f = cc in ap (λ x. ty_app x t) is
with_same_child (letrec g e) c i h = λ j. letrec (with_same_side g e i c h j) (with_same_body g e i c h j)
with_same_child (vec_lit t es) c i h = ap (vec_lit t) (with_same_element es i c h)
with_same_child (case_of e alts) c zero h = let is : c ≡ e = cc in ap (λ x. case_of x alts) is
with_same_child (case_of e alts) c (suc i) h = ap (case_of e) (with_same_branch alts i c h)
with_same_child _ c _ h = absurd cc

with_element_twice : (es : Terms) (i : ℕ) (x y : TermTree) → with_element (with_element es i x) i y ≡ with_element es i y
with_element_twice no_terms i x y = refl
with_element_twice (term_and e es) zero x y = refl
with_element_twice (term_and e es) (suc i) x y = ap (term_and e) (with_element_twice es i x y)

with_side_twice : (g : Group) (i : ℕ) (x y : TermTree) → with_side (with_side g i x) i y ≡ with_side g i y
with_side_twice no_bindings i x y = refl
with_side_twice (bind t e g) zero x y = refl
with_side_twice (bind t e g) (suc i) x y = ap (bind t e) (with_side_twice g i x y)

with_body_twice : (g : Group) (b : TermTree) (i : ℕ) (x y : TermTree) → with_body (with_side g i x) (with_body g b i x) i y ≡ with_body g b i y
with_body_twice no_bindings b zero x y = refl
with_body_twice no_bindings b (suc i) x y = refl
with_body_twice (bind t e g) b zero x y = refl
with_body_twice (bind t e g) b (suc i) x y = with_body_twice g b i x y

with_branch_twice : (alts : Alts) (i : ℕ) (x y : TermTree) → with_branch (with_branch alts i x) i y ≡ with_branch alts i y
with_branch_twice no_alts i x y = refl
with_branch_twice (alt q e more) zero x y = refl
with_branch_twice (alt q e more) (suc i) x y = ap (alt q e) (with_branch_twice more i x y)

pub with_child_twice : (e x y : TermTree) (i : ℕ) → with_child (with_child e i x) i y ≡ with_child e i y
with_child_twice (lam t e) x y zero = refl
with_child_twice (ty_lam k e) x y zero = refl
with_child_twice (app f a) x y zero = refl
with_child_twice (app f a) x y (suc zero) = refl
with_child_twice (ty_app f t) x y zero = refl
with_child_twice (letrec g e) x y i = λ j. letrec (with_side_twice g i x y j) (with_body_twice g e i x y j)
with_child_twice (vec_lit t es) x y i = ap (vec_lit t) (with_element_twice es i x y)
with_child_twice (case_of e alts) x y zero = refl
with_child_twice (case_of e alts) x y (suc i) = ap (case_of e) (with_branch_twice alts i x y)
with_child_twice _ x y _ = refl

less : (i j : ℕ) → suc i ≢ suc j → i ≢ j
less i j n e = n (ap suc e)

element_apart : (es : Terms) (i j : ℕ) (x : TermTree) → i ≢ j → element_at (with_element es i x) j ≡ element_at es j
element_apart no_terms i j x n = refl
element_apart (term_and e es) zero zero x n = absurd (n refl)
element_apart (term_and e es) zero (suc j) x n = refl
element_apart (term_and e es) (suc i) zero x n = refl
element_apart (term_and e es) (suc i) (suc j) x n = element_apart es i j x (less i j n)

part_of_group_apart : (g : Group) (b : TermTree) (i j : ℕ) (x : TermTree) → i ≢ j → part_of_group (with_side g i x) (with_body g b i x) j ≡ part_of_group g b j
part_of_group_apart no_bindings b zero zero x n = absurd (n refl)
part_of_group_apart no_bindings b zero (suc j) x n = refl
part_of_group_apart no_bindings b (suc i) j x n = refl
part_of_group_apart (bind t e g) b zero zero x n = absurd (n refl)
part_of_group_apart (bind t e g) b zero (suc j) x n = refl
part_of_group_apart (bind t e g) b (suc i) zero x n = refl
part_of_group_apart (bind t e g) b (suc i) (suc j) x n = part_of_group_apart g b i j x (less i j n)

branch_apart : (alts : Alts) (i j : ℕ) (x : TermTree) → i ≢ j → option_map (λ a. a.body) (branch_at (with_branch alts i x) j) ≡ option_map (λ a. a.body) (branch_at alts j)
branch_apart no_alts i j x n = refl
branch_apart (alt q e more) zero zero x n = absurd (n refl)
branch_apart (alt q e more) zero (suc j) x n = refl
branch_apart (alt q e more) (suc i) zero x n = refl
branch_apart (alt q e more) (suc i) (suc j) x n = branch_apart more i j x (less i j n)

pub child_apart : (e x : TermTree) (i j : ℕ) → i ≢ j → child (with_child e i x) j ≡ child e j
child_apart (lam t e) x zero zero n = absurd (n refl)
child_apart (lam t e) x zero (suc j) n = refl
child_apart (ty_lam k e) x zero zero n = absurd (n refl)
child_apart (ty_lam k e) x zero (suc j) n = refl
child_apart (app f a) x zero zero n = absurd (n refl)
child_apart (app f a) x zero (suc zero) n = refl
child_apart (app f a) x zero (suc (suc j)) n = refl
child_apart (app f a) x (suc zero) zero n = refl
child_apart (app f a) x (suc zero) (suc zero) n = absurd (n refl)
child_apart (app f a) x (suc zero) (suc (suc j)) n = refl
child_apart (ty_app f t) x zero zero n = absurd (n refl)
child_apart (ty_app f t) x zero (suc j) n = refl
child_apart (letrec g e) x i j n = part_of_group_apart g e i j x n
child_apart (vec_lit t es) x i j n = element_apart es i j x n
child_apart (case_of e alts) x zero zero n = absurd (n refl)
child_apart (case_of e alts) x zero (suc j) n = refl
child_apart (case_of e alts) x (suc i) zero n = refl
child_apart (case_of e alts) x (suc i) (suc j) n = branch_apart alts i j x (less i j n)
child_apart _ x _ j n = refl
