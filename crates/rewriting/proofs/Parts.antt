-- What is at an active place is the part at its path.
use Rattle.std.proofs.Common.{◌≡◌, ℕ, zero, suc, refl, ap, ◌∙◌, List, [], Some}
use Rattle.std.specs.Prelude.{option_map, option_and_then}
use Rattle.chw_types.specs.TypeTree.{TypeTree}
use Rattle.chw_terms.specs.TermTree.{TermTree, var, letrec, con, prim, vec_lit, case_of, Group, no_bindings, bind, size_of}
use Rattle.chw_typing.specs.Groups.{binding_at}
use Rattle.chw_typing.specs.Paths.{part_of_group, part_at}
use Rattle.chw_typing.proofs.PathParts.{part_below, part_behind}
use Rattle.chw_typing.proofs.PathSpines.{spine_argument}
use Rattle.rewriting.specs.Origins.{Origins}
use Rattle.rewriting.specs.Active.{Below, right_side, let_body, constant_body, scrutinee, branch, of_constructor, of_words, of_element, of_vector, demanded, begins, IsActive, at_it, below}
use Rattle.rewriting.specs.Spots.{Spot}

-- the right side of a binding, and the body behind all of them
pub side_at : (g : Group) (e : TermTree) (i : ℕ) (b : TypeTree × TermTree) → binding_at g i ≡ Some b → part_of_group g e i ≡ Some b.1
side_at no_bindings e i b h = absurd cc
side_at (bind t r g) e zero b h = let is : (t, r) ≡ b = cc in ap (λ (c : TypeTree × TermTree). Some c.1) is
side_at (bind t r g) e (suc i) b h = side_at g e i b h

pub body_at : (g : Group) (e : TermTree) → part_of_group g e (size_of g) ≡ Some e
body_at no_bindings e = refl
body_at (bind t r g) e = body_at g e

pub below_is_part : {o : Origins} {at at' : Spot} {e x : TermTree} {p : List ℕ} → Below o at e p at' x → part_at e p ≡ Some x
below_is_part (right_side {g = g} {e = e} {i = i} {b = b} l h n) = part_below (letrec g e) b.1 i [] (side_at g e i b h)
below_is_part (let_body {g = g} {e = e} l) = part_below (letrec g e) e (size_of g) [] (body_at g e)
below_is_part (constant_body {g = g} {e = e} k) = part_below (letrec g e) e (size_of g) [] (body_at g e)
below_is_part (scrutinee d n) = refl
below_is_part (branch {x = x} {i = i} {alts = alts} {a = a} v h n s q) = part_below (case_of (var x) alts) a.body (suc i) [] (ap (option_map (λ a. a.body)) s)
below_is_part (of_constructor c i args {a = a} k h l s) = spine_argument args (con c) a i s
below_is_part (of_words p i args {a = a} k w l m s) = spine_argument args (prim p) a i s
below_is_part (of_element p i args {a = a} k w m s) = spine_argument args (prim p) a i s
below_is_part (of_vector {t = t} {es = es} {i = i} {a = a} k s) = part_below (vec_lit t es) a i [] s
below_is_part (demanded {p = p} {i = i} {args = args} {a = a} d) = spine_argument args (prim p) a i d.is
below_is_part (begins p i j args {a = a} m b t r s) = spine_argument args (prim p) a i s

pub active_is_part : {o : Origins} {at at' : Spot} {e x : TermTree} {p : List ℕ} → IsActive o at e p at' x → part_at e p ≡ Some x
active_is_part at_it = refl
active_is_part (below {e = e} {p = p} {q = q} b r) = part_behind p e q ∙ ap (option_and_then (λ x. part_at x q)) (below_is_part b) ∙ active_is_part r
