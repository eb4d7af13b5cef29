-- The parts of a term with another part in one place.
use Rattle.std.proofs.Common.{◌≡◌, ℕ, refl, sym, ap, ◌∙◌, List, [], ◌∷◌, ◌++◌, Option, Some, None}
use Rattle.std.specs.Prelude.{unwrap_or, option_map, option_and_then}
use Rattle.chw_terms.specs.TermTree.{TermTree}
use Rattle.chw_typing.specs.Paths.{child, with_child, part_at, with_part}
use Rattle.chw_typing.proofs.PathChildren.{child_of_with_child, with_same_child, with_child_twice}

-- the child on the way to a part
pub record Way (o : Option TermTree) (path : List ℕ) (x : TermTree) : Type 0 where
  pub to : TermTree
  pub is : o ≡ Some to
  pub part : part_at to path ≡ Some x

pub way_to : (o : Option TermTree) (path : List ℕ) (x : TermTree) → option_and_then (λ c. part_at c path) o ≡ Some x → Way o path x
way_to (Some c) path x h = record { to = c; is = refl; part = h }
way_to None path x h = absurd cc

-- to the part below a child
pub part_below : (e c : TermTree) (i : ℕ) (path : List ℕ) → child e i ≡ Some c → part_at e (i ∷ path) ≡ part_at c path
part_below e c i path h = ap (option_and_then (λ x. part_at x path)) h

pub with_part_below : (e c x : TermTree) (i : ℕ) (path : List ℕ) → child e i ≡ Some c → with_part e (i ∷ path) x ≡ with_child e i (with_part c path x)
with_part_below e c x i path h = ap (λ o. unwrap_or (option_map (λ c. with_child e i (with_part c path x)) o) e) h

pub part_of_with_part : (path : List ℕ) (e x y : TermTree) → part_at e path ≡ Some x → part_at (with_part e path y) path ≡ Some y
part_of_with_part [] e x y h = refl
part_of_with_part (i ∷ path) e x y h =
    let way = way_to (child e i) path x h in
    ap (λ f. part_at f (i ∷ path)) (with_part_below e way.to y i path way.is)
    ∙ part_below (with_child e i (with_part way.to path y)) (with_part way.to path y) i path (child_of_with_child e way.to (with_part way.to path y) i way.is)
    ∙ part_of_with_part path way.to x y way.part

pub with_same_part : (path : List ℕ) (e x : TermTree) → part_at e path ≡ Some x → with_part e path x ≡ e
with_same_part [] e x h = cc
with_same_part (i ∷ path) e x h =
    let way = way_to (child e i) path x h in
    with_part_below e way.to x i path way.is ∙ ap (with_child e i) (with_same_part path way.to x way.part) ∙ with_same_child e way.to i way.is

with_child_part_twice : (i : ℕ) (path : List ℕ) (e x y : TermTree) (o : Option TermTree) → child e i ≡ o → ((c : TermTree) → with_part (with_part c path x) path y ≡ with_part c path y) → with_part (with_part e (i ∷ path) x) (i ∷ path) y ≡ with_part e (i ∷ path) y
with_child_part_twice i path e x y None h below = ap (λ f. with_part f (i ∷ path) y) (ap (λ o. unwrap_or (option_map (λ c. with_child e i (with_part c path x)) o) e) h)
with_child_part_twice i path e x y (Some c) h below =
    ap (λ f. with_part f (i ∷ path) y) (with_part_below e c x i path h)
    ∙ with_part_below (with_child e i (with_part c path x)) (with_part c path x) y i path (child_of_with_child e c (with_part c path x) i h)
    ∙ with_child_twice e (with_part c path x) (with_part (with_part c path x) path y) i
    ∙ ap (with_child e i) (below c)
    ∙ sym (with_part_below e c y i path h)

pub with_part_twice : (path : List ℕ) (e x y : TermTree) → with_part (with_part e path x) path y ≡ with_part e path y
with_part_twice [] e x y = refl
with_part_twice (i ∷ path) e x y = with_child_part_twice i path e x y (child e i) refl (λ c. with_part_twice path c x y)

part_behind_child : (p q : List ℕ) (o : Option TermTree) → ((c : TermTree) → part_at c (p ++ q) ≡ option_and_then (λ x. part_at x q) (part_at c p)) → option_and_then (λ c. part_at c (p ++ q)) o ≡ option_and_then (λ x. part_at x q) (option_and_then (λ c. part_at c p) o)
part_behind_child p q None h = refl
part_behind_child p q (Some c) h = h c

pub part_behind : (p : List ℕ) (e : TermTree) (q : List ℕ) → part_at e (p ++ q) ≡ option_and_then (λ x. part_at x q) (part_at e p)
part_behind [] e q = refl
part_behind (i ∷ p) e q = part_behind_child p q (child e i) (λ c. part_behind p c q)

pub with_part_behind : (p : List ℕ) (e x y : TermTree) (q : List ℕ) → part_at e p ≡ Some x → with_part e (p ++ q) y ≡ with_part e p (with_part x q y)
with_part_behind [] e x y q h = let is : e ≡ x = cc in ap (λ f. with_part f q y) is
with_part_behind (i ∷ p) e x y q h =
    let way = way_to (child e i) p x h in
    with_part_below e way.to y i (p ++ q) way.is
    ∙ ap (with_child e i) (with_part_behind p way.to x y q way.part)
    ∙ sym (with_part_below e way.to (with_part x q y) i p way.is)
