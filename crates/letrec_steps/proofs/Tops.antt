-- The term below the leading lambdas of a made definition.
use Rattle.std.proofs.Common.{◌≡◌, ◌∙◌, ℕ, refl, sym, ap, subst, true, List, [], ◌∷◌, ◌++◌, Some}
use Rattle.std.proofs.lemmas.List.{append-nil}
use Rattle.chw_types.specs.TypeTree.{TypeTree}
use Rattle.chw_terms.specs.TermTree.{TermTree, letrec, bind, size_of}
use Rattle.chw_typing.proofs.PathParts.{with_part_behind}
use Rattle.chw_typing.proofs.Typed.{part_typed}
use Rattle.chw_typing.specs.Groups.{joined}
use Rattle.chw_typing.specs.Paths.{part_at, with_part}
use Rattle.rewriting.proofs.Around.{place_around}
use Rattle.rewriting.proofs.Lambdas.{one_under}
use Rattle.rewriting.specs.Active.{IsActive, IsPlaceOf, at_it}
use Rattle.rewriting.specs.Named.{UnderLambdas, under_none, under_one, mode_of}
use Rattle.rewriting.specs.Origins.{MadeOf, Origins}
use Rattle.rewriting.specs.Spots.{Spot, spot}
use Rattle.letrec_steps.specs.Tops.{IsTop}
use Rattle.letrec_steps.specs.TopLaws.{PlacesAreBelowTop, BelowTopIsPlace, TopIsTyped}
use Rattle.letrec_steps.specs.TopLaws.{TopIsPut, BelowTopIsPut, SideInTopIsPut}
use Rattle.letrec_steps.proofs.Sides.{side_is_put}

pub places_are_below_top : PlacesAreBelowTop
places_are_below_top o it body top x q path at to is place =
    let same = one_under place.under is.under in
    let there : IsActive o (spot (mode_of it.sort) true at.vars) top place.rest to x =
    subst (λ f. IsActive o (spot (mode_of it.sort) true at.vars) f place.rest to x) same.2
    (subst (λ vs. IsActive o (spot (mode_of it.sort) true vs) place.term place.rest to x) same.1
    place.active)
    in (
      place.rest,
      place.is ∙ ap (λ w. w ++ place.rest) same.0,
      subst (λ s. IsActive o s top place.rest to x) (sym is.stands) there,
    )

pub below_top_is_place : BelowTopIsPlace
below_top_is_place o it body top x q r at to is a =
    record {
      root = q;
      vars = at.vars;
      term = top;
      under = is.under;
      rest = r;
      active = subst (λ s. IsActive o s top r to x) is.stands a;
      is = refl;
    }

-- the top itself
top_is_place : (o : Origins) (it : MadeOf) (body top : TermTree) (q : List ℕ) (at : Spot)
    → IsTop it body q at top → IsPlaceOf o it body q at top
top_is_place o it body top q at is =
    subst (λ w. IsPlaceOf o it body w at top) (append-nil q)
    (below_top_is_place o it body top top q [] at at is at_it)

pub top_is_typed : TopIsTyped
top_is_typed o it body top q at sound typed is =
    let around = place_around o it body top q at sound typed (top_is_place o it body top q at is) in
    let of = part_typed around sound tt typed.type typed.has in
    record { sound = sound; vars = of.0; type = of.1.0; has = of.1.1 }

-- another term below the leading lambdas
pub under_is_part : {vars vs : List TypeTree} {e x : TermTree} {t : TypeTree} {path : List ℕ}
    → UnderLambdas vars e t path vs x → part_at e path ≡ Some x
under_is_part (under_none a) = refl
under_is_part (under_one s r) = under_is_part r

under_put : {vars vs : List TypeTree} {e x : TermTree} {t : TypeTree} {path : List ℕ}
    → UnderLambdas vars e t path vs x → (y : TermTree)
    → UnderLambdas vars (with_part e path y) t path vs y
under_put (under_none a) y = under_none a
under_put (under_one s r) y = under_one s (under_put r y)

pub top_is_put : TopIsPut
top_is_put it body x y q at is = record { under = under_put is.under y; stands = is.stands }

pub below_top_is_put : BelowTopIsPut
below_top_is_put it body x y q path at is =
    with_part_behind q body x y path (under_is_part is.under)

pub side_in_top_is_put : SideInTopIsPut
side_in_top_is_put it body q at front back t x y e is =
    below_top_is_put it body (letrec (joined front (bind t x back)) e) y q (size_of front ∷ []) at
    is
    ∙ ap (with_part body q) (side_is_put front back t x y e)
