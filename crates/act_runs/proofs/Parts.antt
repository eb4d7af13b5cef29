-- A term with another part at a place, and with terms for its made definitions.
use Rattle.std.proofs.Common.{◌≡◌, ℕ, zero, suc, refl, sym, ap, ◌∙◌, List, [], ◌∷◌, Some}
use Rattle.std.specs.Prelude.{option_map}
use Rattle.chw_terms.specs.TermTree.{TermTree, lam, app, ty_lam, ty_app, letrec, vec_lit, case_of, Terms, no_terms, term_and, Group, no_bindings, bind, Alts, no_alts, alt}
use Rattle.chw_typing.specs.Paths.{element_at, with_element, part_of_group, with_side, with_body, branch_at, with_branch, child, with_child, part_at, with_part}
use Rattle.chw_typing.proofs.PathParts.{way_to, with_part_below}
use Rattle.rewriting.specs.Origins.{with_origins, with_origins_all, with_origins_group, with_origins_alts}

element_put : (o : ℕ → TermTree) (es : Terms) (i : ℕ) (c : TermTree) → element_at es i ≡ Some c → element_at (with_origins_all o es) i ≡ Some (with_origins o c)
unfolding with_origins
element_put o no_terms i c h = absurd cc
element_put o (term_and e es) zero c h = ap (option_map (with_origins o)) h
element_put o (term_and e es) (suc i) c h = element_put o es i c h

side_put : (o : ℕ → TermTree) (g : Group) (b : TermTree) (i : ℕ) (c : TermTree) → part_of_group g b i ≡ Some c → part_of_group (with_origins_group o g) (with_origins o b) i ≡ Some (with_origins o c)
unfolding with_origins
side_put o no_bindings b zero c h = ap (option_map (with_origins o)) h
side_put o no_bindings b (suc i) c h = absurd cc
side_put o (bind t e g) b zero c h = ap (option_map (with_origins o)) h
side_put o (bind t e g) b (suc i) c h = side_put o g b i c h

branch_put : (o : ℕ → TermTree) (alts : Alts) (i : ℕ) (c : TermTree) → option_map (λ a. a.body) (branch_at alts i) ≡ Some c → option_map (λ a. a.body) (branch_at (with_origins_alts o alts) i) ≡ Some (with_origins o c)
unfolding with_origins
branch_put o no_alts i c h = absurd cc
branch_put o (alt q e more) zero c h = ap (option_map (with_origins o)) h
branch_put o (alt q e more) (suc i) c h = branch_put o more i c h

child_put : (o : ℕ → TermTree) (e : TermTree) (i : ℕ) (c : TermTree) → child e i ≡ Some c → child (with_origins o e) i ≡ Some (with_origins o c)
unfolding with_origins
child_put o (lam t e) zero c h = ap (option_map (with_origins o)) h
child_put o (ty_lam k e) zero c h = ap (option_map (with_origins o)) h
child_put o (app f a) zero c h = ap (option_map (with_origins o)) h
child_put o (app f a) (suc zero) c h = ap (option_map (with_origins o)) h
child_put o (ty_app f t) zero c h = ap (option_map (with_origins o)) h
child_put o (letrec g e) i c h = side_put o g e i c h
child_put o (vec_lit t es) i c h = element_put o es i c h
child_put o (case_of e alts) zero c h = ap (option_map (with_origins o)) h
child_put o (case_of e alts) (suc i) c h = branch_put o alts i c h
child_put o _ _ c h = absurd cc

with_element_put : (o : ℕ → TermTree) (es : Terms) (i : ℕ) (y : TermTree) → with_origins_all o (with_element es i y) ≡ with_element (with_origins_all o es) i (with_origins o y)
unfolding with_origins
with_element_put o no_terms i y = refl
with_element_put o (term_and e es) zero y = refl
with_element_put o (term_and e es) (suc i) y = ap (term_and (with_origins o e)) (with_element_put o es i y)

with_side_put : (o : ℕ → TermTree) (g : Group) (i : ℕ) (y : TermTree) → with_origins_group o (with_side g i y) ≡ with_side (with_origins_group o g) i (with_origins o y)
unfolding with_origins
with_side_put o no_bindings i y = refl
with_side_put o (bind t e g) zero y = refl
with_side_put o (bind t e g) (suc i) y = ap (bind t (with_origins o e)) (with_side_put o g i y)

with_body_put : (o : ℕ → TermTree) (g : Group) (b : TermTree) (i : ℕ) (y : TermTree) → with_origins o (with_body g b i y) ≡ with_body (with_origins_group o g) (with_origins o b) i (with_origins o y)
unfolding with_origins
with_body_put o no_bindings b zero y = refl
with_body_put o no_bindings b (suc i) y = refl
with_body_put o (bind t e g) b zero y = refl
with_body_put o (bind t e g) b (suc i) y = with_body_put o g b i y

with_branch_put : (o : ℕ → TermTree) (alts : Alts) (i : ℕ) (y : TermTree) → with_origins_alts o (with_branch alts i y) ≡ with_branch (with_origins_alts o alts) i (with_origins o y)
unfolding with_origins
with_branch_put o no_alts i y = refl
with_branch_put o (alt q e more) zero y = refl
with_branch_put o (alt q e more) (suc i) y = ap (alt q (with_origins o e)) (with_branch_put o more i y)

with_child_put : (o : ℕ → TermTree) (e : TermTree) (i : ℕ) (c y : TermTree) → child e i ≡ Some c → with_origins o (with_child e i y) ≡ with_child (with_origins o e) i (with_origins o y)
unfolding with_origins
with_child_put o (lam t e) zero c y h = refl
with_child_put o (ty_lam k e) zero c y h = refl
with_child_put o (app f a) zero c y h = refl
with_child_put o (app f a) (suc zero) c y h = refl
with_child_put o (ty_app f t) zero c y h = refl
with_child_put o (letrec g e) i c y h = λ j. letrec (with_side_put o g i y j) (with_body_put o g e i y j)
with_child_put o (vec_lit t es) i c y h = ap (vec_lit t) (with_element_put o es i y)
with_child_put o (case_of e alts) zero c y h = refl
with_child_put o (case_of e alts) (suc i) c y h = ap (case_of (with_origins o e)) (with_branch_put o alts i y)
with_child_put o _ _ c y h = absurd cc

pub with_part_put : (path : List ℕ) (o : ℕ → TermTree) (e x y : TermTree) → part_at e path ≡ Some x → with_origins o (with_part e path y) ≡ with_part (with_origins o e) path (with_origins o y)
with_part_put [] o e x y h = refl
with_part_put (i ∷ path) o e x y h =
    let way = way_to (child e i) path x h in
    ap (with_origins o) (with_part_below e way.to y i path way.is)
    ∙ with_child_put o e i way.to (with_part way.to path y) way.is
    ∙ ap (with_child (with_origins o e) i) (with_part_put path o way.to x y way.part)
    ∙ sym (with_part_below (with_origins o e) (with_origins o way.to) (with_origins o y) i path (child_put o e i way.to way.is))
