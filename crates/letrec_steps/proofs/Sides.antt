-- Right sides of a letrec by their numbers.
use Rattle.std.proofs.Common.{◌≡◌, ◌∙◌, ℕ, zero, suc, ◌<◌, refl, sym, ap, arith, [], Some}
use Rattle.chw_types.specs.TypeTree.{TypeTree}
use Rattle.chw_terms.specs.TermTree.{TermTree, letrec, Group, no_bindings, bind, size_of}
use Rattle.chw_typing.proofs.GroupParts.{first_of_joined}
use Rattle.chw_typing.proofs.PathParts.{with_part_below}
use Rattle.chw_typing.specs.Groups.{binding_at, joined}
use Rattle.chw_typing.specs.Paths.{part_of_group, with_side, with_body}
use Rattle.letrec_steps.specs.LetrecLaws.{BindingBetween, QuietFront, QuietOfFront, SideIsPut}

-- before a binding there are bindings
pub binding_before : (g : Group) (k j : ℕ) (b : TypeTree × TermTree)
    → binding_at g k ≡ Some b → j < k
    → (c : TypeTree × TermTree) × (binding_at g j ≡ Some c)
binding_before no_bindings k j b is l = absurd cc
binding_before (bind t x g) zero j b is l = absurd (omega (arith, l))
binding_before (bind t x g) (suc k) zero b is l = ((t, x), refl)
binding_before (bind t x g) (suc k) (suc j) b is l =
    binding_before g k j b is (omega (arith, l))

-- a binding has a number below that of the body
pub binding_in : (g : Group) (i : ℕ) (b : TypeTree × TermTree)
    → binding_at g i ≡ Some b → i < size_of g
binding_in no_bindings i b is = absurd cc
binding_in (bind t x g) zero b is = omega arith
binding_in (bind t x g) (suc i) b is = let l = binding_in g i b is in omega (arith, l)

-- a part of a letrec is a right side or the body
pub data IsPart (g : Group) (i : ℕ) : Type 0 where
  a_side : (b : TypeTree × TermTree) → binding_at g i ≡ Some b → IsPart g i
  the_body : i ≡ size_of g → IsPart g i

pub part_is : (g : Group) (e x : TermTree) (i : ℕ) → part_of_group g e i ≡ Some x → IsPart g i
part_is no_bindings e x zero h = the_body refl
part_is no_bindings e x (suc i) h = absurd cc
part_is (bind t y g) e x zero h = a_side (t, y) refl
part_is (bind t y g) e x (suc i) h = of (part_is g e x i h)
  where
    of : IsPart g i → IsPart (bind t y g) (suc i)
    of (a_side b is) = a_side b is
    of (the_body is) = the_body (ap suc is)

-- the binding between two groups
pub binding_between : BindingBetween
binding_between no_bindings back t x = refl
binding_between (bind u y front) back t x = binding_between front back t x

part_between : (front back : Group) (t : TypeTree) (x e : TermTree)
    → part_of_group (joined front (bind t x back)) e (size_of front) ≡ Some x
part_between no_bindings back t x e = refl
part_between (bind u y front) back t x e = part_between front back t x e

side_between : (front back : Group) (t : TypeTree) (x y : TermTree)
    → with_side (joined front (bind t x back)) (size_of front) y ≡ joined front (bind t y back)
side_between no_bindings back t x y = refl
side_between (bind u z front) back t x y = ap (bind u z) (side_between front back t x y)

body_between : (front back : Group) (t : TypeTree) (x y e : TermTree)
    → with_body (joined front (bind t x back)) e (size_of front) y ≡ e
body_between no_bindings back t x y e = refl
body_between (bind u z front) back t x y e = body_between front back t x y e

pub side_is_put : SideIsPut
side_is_put front back t x y e =
    let g = joined front (bind t x back) in
    let k = size_of front in
    with_part_below (letrec g e) x y k [] (part_between front back t x e)
    ∙ ap (λ h. letrec h (with_body g e k y)) (side_between front back t x y)
    ∙ ap (letrec (joined front (bind t y back))) (body_between front back t x y e)

pub quiet_front : QuietFront
quiet_front front back quiet i b l is =
    quiet i b l (sym (first_of_joined front back i l) ∙ is)

pub quiet_of_front : QuietOfFront
quiet_of_front front back quiet i b l is = quiet i b l (first_of_joined front back i l ∙ is)
