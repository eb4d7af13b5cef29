-- A term with another part in one place stays complete.
use Rattle.std.proofs.Common.{◌≡◌, ℕ, zero, suc, sym, subst, List, [], ◌∷◌, Some}
use Rattle.std.specs.Prelude.{option_map}
use Rattle.chw_types.specs.declared.declarations.Data.{Data}
use Rattle.chw_terms.specs.TermTree.{TermTree, lam, app, ty_lam, ty_app, letrec, vec_lit, case_of, Terms, no_terms, term_and, Group, no_bindings, bind, Alts, no_alts, alt}
use Rattle.chw_typing.specs.Programs.{IsComplete, AllAreComplete, GroupIsComplete, AltsAreComplete}
use Rattle.chw_typing.proofs.GroupParts.{covered_by}
use Rattle.chw_typing.specs.Paths.{element_at, with_element, part_of_group, with_side, with_body, branch_at, with_branch, child, with_child, part_at, with_part}
use Rattle.chw_typing.proofs.PathParts.{way_to, with_part_below}
use Rattle.chw_typing.proofs.OneChanged.{patterns_with_branch}

element_complete : (datas : List Data) (es : Terms) (i : ℕ) (c : TermTree) → AllAreComplete datas es → element_at es i ≡ Some c → IsComplete datas c
element_complete datas no_terms i c h at = absurd cc
element_complete datas (term_and e es) zero c h at = let is : e ≡ c = cc in subst (IsComplete datas) is h.0
element_complete datas (term_and e es) (suc i) c h at = element_complete datas es i c h.1 at

part_of_group_complete : (datas : List Data) (g : Group) (e : TermTree) (i : ℕ) (c : TermTree) → GroupIsComplete datas g → IsComplete datas e → part_of_group g e i ≡ Some c → IsComplete datas c
part_of_group_complete datas no_bindings e zero c h b at = let is : e ≡ c = cc in subst (IsComplete datas) is b
part_of_group_complete datas no_bindings e (suc i) c h b at = absurd cc
part_of_group_complete datas (bind t r g) e zero c h b at = let is : r ≡ c = cc in subst (IsComplete datas) is h.0
part_of_group_complete datas (bind t r g) e (suc i) c h b at = part_of_group_complete datas g e i c h.1 b at

branch_complete : (datas : List Data) (alts : Alts) (i : ℕ) (c : TermTree) → AltsAreComplete datas alts → option_map (λ a. a.body) (branch_at alts i) ≡ Some c → IsComplete datas c
branch_complete datas no_alts i c h at = absurd cc
branch_complete datas (alt q e more) zero c h at = let is : e ≡ c = cc in subst (IsComplete datas) is h.0
branch_complete datas (alt q e more) (suc i) c h at = branch_complete datas more i c h.1 at

pub child_complete : (datas : List Data) (e c : TermTree) (i : ℕ) → IsComplete datas e → child e i ≡ Some c → IsComplete datas c
child_complete datas (lam t e) c zero h at = let is : e ≡ c = cc in subst (IsComplete datas) is h
child_complete datas (ty_lam k e) c zero h at = let is : e ≡ c = cc in subst (IsComplete datas) is h
child_complete datas (app f a) c zero h at = let is : f ≡ c = cc in subst (IsComplete datas) is h.0
child_complete datas (app f a) c (suc zero) h at = let is : a ≡ c = cc in subst (IsComplete datas) is h.1
child_complete datas (ty_app f t) c zero h at = let is : f ≡ c = cc in subst (IsComplete datas) is h
child_complete datas (letrec g e) c i h at = part_of_group_complete datas g e i c h.0 h.1 at
child_complete datas (vec_lit t es) c i h at = element_complete datas es i c h at
child_complete datas (case_of e alts) c zero h at = let is : e ≡ c = cc in subst (IsComplete datas) is h.1
child_complete datas (case_of e alts) c (suc i) h at = branch_complete datas alts i c h.2 at
child_complete datas _ c _ h at = absurd cc

with_element_complete : (datas : List Data) (es : Terms) (i : ℕ) (y : TermTree) → AllAreComplete datas es → IsComplete datas y → AllAreComplete datas (with_element es i y)
with_element_complete datas no_terms i y h f = tt
with_element_complete datas (term_and e es) zero y h f = (f, h.1)
with_element_complete datas (term_and e es) (suc i) y h f = (h.0, with_element_complete datas es i y h.1 f)

with_side_complete : (datas : List Data) (g : Group) (i : ℕ) (y : TermTree) → GroupIsComplete datas g → IsComplete datas y → GroupIsComplete datas (with_side g i y)
with_side_complete datas no_bindings i y h f = tt
with_side_complete datas (bind t e g) zero y h f = (f, h.1)
with_side_complete datas (bind t e g) (suc i) y h f = (h.0, with_side_complete datas g i y h.1 f)

with_body_complete : (datas : List Data) (g : Group) (e : TermTree) (i : ℕ) (y : TermTree) → IsComplete datas e → IsComplete datas y → IsComplete datas (with_body g e i y)
with_body_complete datas no_bindings e zero y h f = f
with_body_complete datas no_bindings e (suc i) y h f = h
with_body_complete datas (bind t r g) e zero y h f = h
with_body_complete datas (bind t r g) e (suc i) y h f = with_body_complete datas g e i y h f

with_branch_complete : (datas : List Data) (alts : Alts) (i : ℕ) (y : TermTree) → AltsAreComplete datas alts → IsComplete datas y → AltsAreComplete datas (with_branch alts i y)
with_branch_complete datas no_alts i y h f = tt
with_branch_complete datas (alt q e more) zero y h f = (f, h.1)
with_branch_complete datas (alt q e more) (suc i) y h f = (h.0, with_branch_complete datas more i y h.1 f)

pub with_child_complete : (datas : List Data) (e y : TermTree) (i : ℕ) → IsComplete datas e → IsComplete datas y → IsComplete datas (with_child e i y)
with_child_complete datas (lam t e) y zero h f = f
with_child_complete datas (ty_lam k e) y zero h f = f
with_child_complete datas (app g a) y zero h f = (f, h.1)
with_child_complete datas (app g a) y (suc zero) h f = (h.0, f)
with_child_complete datas (ty_app g t) y zero h f = f
with_child_complete datas (letrec g e) y i h f = (with_side_complete datas g i y h.0 f, with_body_complete datas g e i y h.1 f)
with_child_complete datas (vec_lit t es) y i h f = with_element_complete datas es i y h f
with_child_complete datas (case_of e alts) y zero h f = (h.0, f, h.2)
with_child_complete datas (case_of e alts) y (suc i) h f =
    (covered_by datas alts (with_branch alts i y) (sym (patterns_with_branch alts i y)) h.0, h.1, with_branch_complete datas alts i y h.2 f)
with_child_complete datas e y i h f = h

pub part_complete : (p : List ℕ) (datas : List Data) (e x : TermTree) → IsComplete datas e → part_at e p ≡ Some x → IsComplete datas x
part_complete [] datas e x h at = let is : e ≡ x = cc in subst (IsComplete datas) is h
part_complete (i ∷ p) datas e x h at =
    let way = way_to (child e i) p x at in
    part_complete p datas way.to x (child_complete datas e way.to i h way.is) way.part

pub plug_complete : (p : List ℕ) (datas : List Data) (e x y : TermTree) → IsComplete datas e → part_at e p ≡ Some x → IsComplete datas y → IsComplete datas (with_part e p y)
plug_complete [] datas e x y h at f = f
plug_complete (i ∷ p) datas e x y h at f =
    let way = way_to (child e i) p x at in
    subst (IsComplete datas) (sym (with_part_below e way.to y i p way.is))
    (with_child_complete datas e (with_part way.to p y) i h (plug_complete p datas way.to x y (child_complete datas e way.to i h way.is) way.part f))
