-- What is below a place is smaller.
use Rattle.std.proofs.Common.{◌≡◌, ◌<◌, ◌≤◌, ◌-◌, subst, ℕ, zero, suc, List, [], ◌∷◌, ◌++◌, length, replicate, arith, Some}
use Rattle.std.specs.Prelude.{option_map}
use Rattle.chw_terms.specs.TermSize.{tree_size, terms_size, alts_size}
use Rattle.chw_terms.specs.TermTree.{TermTree, lam, app, ty_lam, ty_app, letrec, vec_lit, case_of, Terms, no_terms, term_and, Group, no_bindings, bind, Alts, no_alts, alt}
use Rattle.chw_typing.specs.Paths.{element_at, part_of_group, branch_at, child, part_at, argument_path}
use Rattle.chw_typing.proofs.PathParts.{way_to}
use Rattle.rewriting.specs.Active.{Below, right_side, let_body, constant_body, scrutinee, branch, of_constructor, of_words, of_element, of_vector, demanded, begins}
use Rattle.rewriting.specs.Origins.{Origins}
use Rattle.rewriting.specs.Spots.{Spot}
use Rattle.rewriting.proofs.Parts.{below_is_part}

element_smaller : (es : Terms) (i : ℕ) (c : TermTree) → element_at es i ≡ Some c → tree_size c < terms_size es
element_smaller no_terms i c at = absurd cc
element_smaller (term_and e es) zero c at = let is : e ≡ c = cc in subst (λ c. tree_size c < terms_size (term_and e es)) is (omega arith)
element_smaller (term_and e es) (suc i) c at = let less = element_smaller es i c at in omega (arith, less)

part_of_group_smaller : (g : Group) (e : TermTree) (i : ℕ) (c : TermTree) → part_of_group g e i ≡ Some c → tree_size c < tree_size (letrec g e)
part_of_group_smaller no_bindings e zero c at = let is : e ≡ c = cc in subst (λ c. tree_size c < tree_size (letrec no_bindings e)) is (omega arith)
part_of_group_smaller no_bindings e (suc i) c at = absurd cc
part_of_group_smaller (bind t r g) e zero c at = let is : r ≡ c = cc in subst (λ c. tree_size c < tree_size (letrec (bind t r g) e)) is (omega arith)
part_of_group_smaller (bind t r g) e (suc i) c at = let less = part_of_group_smaller g e i c at in omega (arith, less)

branch_smaller : (alts : Alts) (i : ℕ) (c : TermTree) → option_map (λ a. a.body) (branch_at alts i) ≡ Some c → tree_size c < alts_size alts
branch_smaller no_alts i c at = absurd cc
branch_smaller (alt q e more) zero c at = let is : e ≡ c = cc in subst (λ c. tree_size c < alts_size (alt q e more)) is (omega arith)
branch_smaller (alt q e more) (suc i) c at = let less = branch_smaller more i c at in omega (arith, less)

child_smaller : (e c : TermTree) (i : ℕ) → child e i ≡ Some c → tree_size c < tree_size e
child_smaller (lam t e) c zero at = let is : e ≡ c = cc in subst (λ c. tree_size c < tree_size (lam t e)) is (omega arith)
child_smaller (ty_lam k e) c zero at = let is : e ≡ c = cc in subst (λ c. tree_size c < tree_size (ty_lam k e)) is (omega arith)
child_smaller (app f a) c zero at = let is : f ≡ c = cc in subst (λ c. tree_size c < tree_size (app f a)) is (omega arith)
child_smaller (app f a) c (suc zero) at = let is : a ≡ c = cc in subst (λ c. tree_size c < tree_size (app f a)) is (omega arith)
child_smaller (ty_app f t) c zero at = let is : f ≡ c = cc in subst (λ c. tree_size c < tree_size (ty_app f t)) is (omega arith)
child_smaller (letrec g e) c i at = part_of_group_smaller g e i c at
child_smaller (vec_lit t es) c i at = let less = element_smaller es i c at in omega (arith, less)
child_smaller (case_of e alts) c zero at = let is : e ≡ c = cc in subst (λ c. tree_size c < tree_size (case_of e alts)) is (omega arith)
child_smaller (case_of e alts) c (suc i) at = let less = branch_smaller alts i c at in omega (arith, less)
child_smaller _ c _ at = absurd cc

part_no_larger : (p : List ℕ) (e x : TermTree) → part_at e p ≡ Some x → tree_size x ≤ tree_size e
part_no_larger [] e x at = let is : e ≡ x = cc in subst (λ x. tree_size x ≤ tree_size e) is (omega arith)
part_no_larger (i ∷ p) e x at =
    let way = way_to (child e i) p x at in
    let first = child_smaller e way.to i way.is in
    let rest = part_no_larger p way.to x way.part in
    omega (arith, first, rest)

part_smaller : (p : List ℕ) (e x : TermTree) → 0 < length p → part_at e p ≡ Some x → tree_size x < tree_size e
part_smaller [] e x some at = absurd (omega (arith, some))
part_smaller (i ∷ p) e x some at =
    let way = way_to (child e i) p x at in
    let first = child_smaller e way.to i way.is in
    let rest = part_no_larger p way.to x way.part in
    omega (arith, first, rest)

-- a path to an argument has a step
argument_step : (i n : ℕ) → 0 < length {A = ℕ} (argument_path i n)
argument_step i n = steps (n - 1 - i)
  where
    steps : (k : ℕ) → 0 < length {A = ℕ} (replicate k 0 ++ 1 ∷ [])
    steps zero = omega arith
    steps (suc k) = omega arith

pub below_smaller : {o : Origins} {at at' : Spot} {e x : TermTree} {path : List ℕ} → Below o at e path at' x → tree_size x < tree_size e
below_smaller {e = e} {x = x} {path = path} b = part_smaller path e x (some b) (below_is_part b)
  where
    some : {o : Origins} {at at' : Spot} {e x : TermTree} {path : List ℕ} → Below o at e path at' x → 0 < length path
    some (right_side l h n) = omega arith
    some (let_body l) = omega arith
    some (constant_body k) = omega arith
    some (scrutinee d n) = omega arith
    some (branch m h n s q) = omega arith
    some (of_constructor c i args k h l s) = argument_step i (length args)
    some (of_words p i args k w l m s) = argument_step i (length args)
    some (of_element p i args k w m s) = argument_step i (length args)
    some (of_vector k s) = omega arith
    some (demanded {p = p} {i = i} {args = args} d) = argument_step i (length args)
    some (begins p i j args m b t r s) = argument_step i (length args)
