-- At an active place of a made definition a whole spine of its body stands.
use Rattle.std.proofs.Common.{◌≡◌, ℕ, zero, suc, ◌∙◌, ap, refl, List, [], ◌∷◌, ◌++◌, Some}
use Rattle.std.specs.Prelude.{Option, option_map}
use Rattle.std.proofs.lemmas.List.{append-nil}
use Rattle.chw_types.specs.TypeTree.{TypeTree}
use Rattle.chw_terms.specs.TermTree.{TermTree, lam, con, prim, Group, no_bindings, bind, size_of}
use Rattle.chw_typing.specs.Groups.{binding_at}
use Rattle.chw_typing.specs.Paths.{part_of_group, Branch}
use Rattle.chw_typing.specs.PartLaws.{SpineIsPart, SpineBehind, ArgumentIsSpine}
use Rattle.chw_typing.specs.PartSpines.{spine_at}
use Rattle.rewriting.specs.Named.{UnderLambdas, under_none, under_one}
use Rattle.rewriting.specs.Origins.{MadeOf, Origins}
use Rattle.rewriting.specs.Active.{Below, right_side, let_body, constant_body, scrutinee}
use Rattle.rewriting.specs.Active.{branch, of_constructor, of_words, of_element, of_vector}
use Rattle.rewriting.specs.Active.{demanded, begins, IsActive, at_it, below, IsPlaceOf}
use Rattle.rewriting.specs.Spots.{Spot}

-- what is promised of whole spines
pub record SpineLaws : Type 0 where
  pub part : SpineIsPart
  pub behind : SpineBehind
  pub argument : ArgumentIsSpine

-- a whole spine of a whole spine
through : SpineLaws → (e x y : TermTree) (p q : List ℕ) → spine_at e p ≡ Some x
    → spine_at x q ≡ Some y → spine_at e (p ++ q) ≡ Some y
through laws e x y p [] h k = ap (spine_at e) (append-nil p) ∙ h ∙ k
through laws e x y p (i ∷ q) h k = laws.behind e x p i q (laws.part e x p h) ∙ k

side_is_part : (g : Group) (e : TermTree) (i : ℕ) (b : TypeTree × TermTree)
    → binding_at g i ≡ Some b → part_of_group g e i ≡ Some b.1
side_is_part no_bindings e i b h = absurd cc
side_is_part (bind t s g) e zero b h =
    ap (λ (o : Option (TypeTree × TermTree)). option_map (λ (c : TypeTree × TermTree). c.1) o) h
side_is_part (bind t s g) e (suc i) b h = side_is_part g e i b h

body_is_part : (g : Group) (e : TermTree) → part_of_group g e (size_of g) ≡ Some e
body_is_part no_bindings e = refl
body_is_part (bind t s g) e = body_is_part g e

-- one step below a place
below_is_spine : SpineLaws → {o : Origins} {at at' : Spot} {e x : TermTree} {p : List ℕ}
    → Below o at e p at' x → spine_at e p ≡ Some x
below_is_spine laws (right_side {g = g} {e = e} {i = i} {b = b} lets is named) =
    side_is_part g e i b is
below_is_spine laws (let_body {g = g} {e = e} lets) = body_is_part g e
below_is_spine laws (constant_body {g = g} {e = e} k) = body_is_part g e
below_is_spine laws (scrutinee has unnamed) = refl
below_is_spine laws (branch v is named at pattern) = ap (option_map (λ (a : Branch). a.body)) at
below_is_spine laws (of_constructor c i args {a = a} k is all at) =
    laws.argument (con c) a args i at
below_is_spine laws (of_words p i args {a = a} k words all within at) =
    laws.argument (prim p) a args i at
below_is_spine laws (of_element p i args {a = a} k takes within at) =
    laws.argument (prim p) a args i at
below_is_spine laws (of_vector k at) = at
below_is_spine laws (demanded {p = p} {i = i} {args = args} {a = a} d) =
    laws.argument (prim p) a args i d.is
below_is_spine laws (begins p i j args {a = a} c with type rep at) =
    laws.argument (prim p) a args i at

-- any number of steps below
active_is_spine : SpineLaws → {o : Origins} {at at' : Spot} {e x : TermTree} {p : List ℕ}
    → IsActive o at e p at' x → spine_at e p ≡ Some x
active_is_spine laws at_it = refl
active_is_spine laws (below {e = e} {x = x} {y = y} {p = p} {q = q} h r) =
    through laws e x y p q (below_is_spine laws h) (active_is_spine laws r)

-- below leading lambdas
under_is_spine : SpineLaws → {vars vs : List TypeTree} {e x : TermTree} {t : TypeTree} {p : List ℕ}
    → UnderLambdas vars e t p vs x → spine_at e p ≡ Some x
under_is_spine laws (under_none none) = refl
under_is_spine laws (under_one {a = a} {e = e} {x = x} {p = p} same r) =
    through laws (lam a e) e x (0 ∷ []) p refl (under_is_spine laws r)

pub place_is_spine : SpineLaws
    → (o : Origins) (it : MadeOf) (body x : TermTree) (path : List ℕ) (at : Spot)
    → IsPlaceOf o it body path at x → spine_at body path ≡ Some x
place_is_spine laws o it body x path at place =
    ap (spine_at body) place.is ∙ through laws body place.term x place.root place.rest
    (under_is_spine laws place.under) (active_is_spine laws place.active)
