-- Active places left of one at which the term has changed were active before.
use Rattle.std.proofs.Common.{◌≡◌, ◌∙◌, ℕ, refl, sym, ap, subst, true, List, [], ◌++◌, Some}
use Rattle.chw_types.specs.TypeTree.{TypeTree}
use Rattle.chw_terms.specs.TermTree.{TermTree}
use Rattle.chw_typing.proofs.PathParts.{with_part_behind}
use Rattle.chw_typing.specs.Paths.{part_at, with_part}
use Rattle.rewriting.proofs.Lambdas.{one_under}
use Rattle.rewriting.specs.Named.{UnderLambdas, mode_of, under_none, under_one}
use Rattle.rewriting.specs.Origins.{MadeOf, Origins}
use Rattle.rewriting.proofs.Parts.{below_is_part}
use Rattle.rewriting.specs.Active.{Below, IsActive, IsPlaceOf, at_it, below}
use Rattle.rewriting.specs.Spots.{Spot, spot}
use Rattle.step_order.proofs.Changed.{onto}
use Rattle.step_order.proofs.Left.{IsLeft, left_of_rest, nothing_left_of_root}
use Rattle.step_order.proofs.Onto.{Onto, beside, to_it, to_right}

-- the places left of a path, below a spot and a term, with y for c
abbrev LeftStay : Origins → Spot → TermTree → TermTree → List ℕ → Type 0
LeftStay o at c y r =
    (q : List ℕ) (at' : Spot) (z : TermTree)
    → IsActive o at y q at' z → IsLeft q r → IsActive o at c q at' z

-- from what is below a step to the whole
behind_step : {o : Origins} {at mid at'' : Spot} {e c z : TermTree} {p q : List ℕ}
    (r : List ℕ) (y : TermTree)
    → Below o at e p mid c → LeftStay o mid c y r
    → IsActive o at (with_part e p y) q at'' z → IsLeft q (p ++ r)
    → IsActive o at e q at'' z
behind_step r y b h at_it l = absurd l
behind_step {o} {at} {mid} {at''} {e} {c} {z} {p} r y b h
    (below {at' = to} {x = x} {p = q} {q = q'} b' a) l = by (onto y b b')
  where
    by : Onto o at e p mid y q to x → IsActive o at e (q ++ q') at'' z
    by (to_it path there same) =
        let inside : IsActive o mid y q' at'' z =
        subst (λ s. IsActive o s y q' at'' z) there
        (subst (λ f. IsActive o to f q' at'' z) same a)
        in
        let left = left_of_rest p q' r (subst (λ w. IsLeft (w ++ q') (p ++ r)) path l) in
        subst (λ w. IsActive o at e (w ++ q') at'' z) (sym path)
        (below b (h q' at'' z inside left))
    by (beside old) = below old a
    by (to_right n) = absurd (n r q' l)

pub active_behind : {o : Origins} {at mid at'' : Spot} {e c z : TermTree} {p q : List ℕ}
    (y : TermTree)
    → IsActive o at e p mid c → IsActive o at (with_part e p y) q at'' z → IsLeft q p
    → IsActive o at e q at'' z
active_behind {q = q} y at_it a l = absurd (nothing_left_of_root q l)
active_behind {o} {at} {mid} {at''} {e} {c} {z} {q = q} y
    (below {x = x} {p = p} {q = r} b rest) a l =
    let changed = with_part_behind p e x y r (below_is_part b) in
    behind_step r (with_part x r y) b (λ q' to' z' a' l'. active_behind y rest a' l')
    (subst (λ f. IsActive o at f q at'' z) changed a) l

-- below leading lambdas is the part there, and another term may come there
under_is_part : {vars vs : List TypeTree} {e x : TermTree} {t : TypeTree} {path : List ℕ}
    → UnderLambdas vars e t path vs x → part_at e path ≡ Some x
under_is_part (under_none a) = refl
under_is_part (under_one s r) = under_is_part r

under_put : {vars vs : List TypeTree} {e x : TermTree} {t : TypeTree} {path : List ℕ}
    → UnderLambdas vars e t path vs x → (y : TermTree)
    → UnderLambdas vars (with_part e path y) t path vs y
under_put (under_none a) y = under_none a
under_put (under_one s r) y = under_one s (under_put r y)

-- a place of the changed body that is left of the change
pub place_behind
    : (o : Origins) (it : MadeOf) (body x y new : TermTree) (path q : List ℕ) (at at' : Spot)
    → IsPlaceOf o it body path at x
    → IsPlaceOf o it (with_part body path new) q at' y
    → IsLeft q path
    → IsPlaceOf o it body q at' y
place_behind o it body x y new path q at at' l r left =
    record {
      root = l.root;
      vars = l.vars;
      term = l.term;
      under = l.under;
      rest = r.rest;
      active = active_behind new l.active there (left_of_rest l.root r.rest l.rest both);
      is = is;
    }
  where
    inside : TermTree
    inside = with_part l.term l.rest new

    same : with_part body path new ≡ with_part body l.root inside
    same =
        ap (λ w. with_part body w new) l.is
        ∙ with_part_behind l.root body l.term new l.rest (under_is_part l.under)

    top : (r.root ≡ l.root) × (r.vars ≡ l.vars) × (r.term ≡ inside)
    top =
        one_under r.under
        (subst (λ e. UnderLambdas [] e it.ty l.root l.vars inside) (sym same)
        (under_put l.under inside))

    there : IsActive o (spot (mode_of it.sort) true l.vars) inside r.rest at' y
    there =
        subst (λ vs. IsActive o (spot (mode_of it.sort) true vs) inside r.rest at' y) top.1
        (subst (λ e. IsActive o (spot (mode_of it.sort) true r.vars) e r.rest at' y) top.2
        r.active)

    is : q ≡ l.root ++ r.rest
    is = r.is ∙ ap (λ w. w ++ r.rest) top.0

    both : IsLeft (l.root ++ r.rest) (l.root ++ l.rest)
    both = subst (IsLeft (l.root ++ r.rest)) l.is (subst (λ w. IsLeft w path) is left)
