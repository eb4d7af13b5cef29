-- What is below a place is smaller than the term there.
use Rattle.std.proofs.Common.{◌≡◌, ℕ, zero, suc, ◌<◌, ◌≤◌, ap, arith, List, [], ◌∷◌, Some, slice_get}
use Rattle.chw_types.specs.TypeTree.{TypeTree}
use Rattle.chw_terms.specs.declared.term.Arg.{Arg}
use Rattle.chw_terms.specs.declared.term.Arg.TheVariants.{OfTerm, OfType}
use Rattle.chw_terms.specs.TermFalls.{applied_size}
use Rattle.chw_terms.specs.TermSize.{tree_size, terms_size, group_size, alts_size, args_size}
use Rattle.chw_terms.specs.TermTree.{TermTree, con, prim, Terms, no_terms, term_and}
use Rattle.chw_terms.specs.TermTree.{Group, no_bindings, bind, Alts, no_alts, alt}
use Rattle.chw_terms.specs.TermView.{applied}
use Rattle.chw_typing.specs.Groups.{binding_at}
use Rattle.chw_typing.specs.Paths.{element_at, Branch, branch_at}
use Rattle.rewriting.specs.Origins.{Origins}
use Rattle.rewriting.specs.Active.{Below, right_side, let_body, constant_body, scrutinee, branch}
use Rattle.rewriting.specs.Active.{of_constructor, of_words, of_element, of_vector, demanded, begins}
use Rattle.rewriting.specs.Spots.{Spot}

side_smaller : (g : Group) (i : ℕ) (b : TypeTree × TermTree)
    → binding_at g i ≡ Some b → tree_size b.1 < group_size g
side_smaller no_bindings i b h = absurd cc
side_smaller (bind t e g) zero b h =
    let is : (t, e) ≡ b = cc in
    let size = ap (λ (c : TypeTree × TermTree). tree_size c.1) is in
    omega (arith, size)
side_smaller (bind t e g) (suc i) b h = omega (arith, side_smaller g i b h)

branch_smaller : (alts : Alts) (i : ℕ) (a : Branch)
    → branch_at alts i ≡ Some a → tree_size a.body < alts_size alts
branch_smaller no_alts i a h = absurd cc
branch_smaller (alt q e more) zero a h =
    let is : record { pattern = q; body = e } ≡ a = cc in
    let size = ap (λ (b : Branch). tree_size b.body) is in
    omega (arith, size)
branch_smaller (alt q e more) (suc i) a h = omega (arith, branch_smaller more i a h)

element_smaller : (es : Terms) (i : ℕ) (a : TermTree)
    → element_at es i ≡ Some a → tree_size a < terms_size es
element_smaller no_terms i a h = absurd cc
element_smaller (term_and e es) zero a h =
    let is : e ≡ a = cc in let size = ap tree_size is in omega (arith, size)
element_smaller (term_and e es) (suc i) a h = omega (arith, element_smaller es i a h)

args_more : (a : Arg) (args : List Arg) → args_size args ≤ args_size (a ∷ args)
args_more (OfTerm e) args = omega arith
args_more (OfType t) args = omega arith

argument_smaller : (args : List Arg) (i : ℕ) (a : TermTree)
    → slice_get args i ≡ Some (OfTerm a) → tree_size a < args_size args
argument_smaller [] i a h = absurd cc
argument_smaller (b ∷ args) zero a h =
    let is : b ≡ OfTerm a = cc in
    let size = ap (λ (c : Arg). args_size (c ∷ args)) is in
    omega (arith, size)
argument_smaller (b ∷ args) (suc i) a h = omega (arith, argument_smaller args i a h, args_more b args)

in_spine : (h a : TermTree) (args : List Arg) (i : ℕ)
    → slice_get args i ≡ Some (OfTerm a) → tree_size a < tree_size (applied h args)
in_spine h a args i s = omega (arith, applied_size h args, argument_smaller args i a s)

falls : {o : Origins} {at at' : Spot} {e x : TermTree} {p : List ℕ}
    → Below o at e p at' x → tree_size x < tree_size e
falls (right_side {g = g} {i = i} {b = b} l s n) = omega (arith, side_smaller g i b s)
falls (let_body l) = omega arith
falls (constant_body k) = omega arith
falls (scrutinee d n) = omega arith
falls (branch {i = i} {alts = alts} {a = a} v s n b r) = omega (arith, branch_smaller alts i a b)
falls (of_constructor c i args {a = a} k s l r) = in_spine (con c) a args i r
falls (of_words p i args {a = a} k w l m r) = in_spine (prim p) a args i r
falls (of_element p i args {a = a} k w m r) = in_spine (prim p) a args i r
falls (of_vector {es = es} {i = i} {a = a} k s) = omega (arith, element_smaller es i a s)
falls (demanded {p = p} {i = i} {args = args} {a = a} d) = in_spine (prim p) a args i d.is
falls (begins p i j args {a = a} m b t r s) = in_spine (prim p) a args i s

pub below_falls : (o : Origins) (at at' : Spot) (e x : TermTree) (p : List ℕ)
    → Below o at e p at' x → tree_size x < tree_size e
below_falls o at at' e x p b = falls b
