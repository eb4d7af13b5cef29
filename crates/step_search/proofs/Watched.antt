-- Counts that grow by few things.
use Rattle.std.proofs.Common.{◌≡◌, ◌≤◌, ◌+◌, ◌*◌, ℕ, refl, sym, ap, ◌∙◌, arith, List, [], ◌∷◌, length, Some, slice_get}
use Rattle.std.specs.List.{AllByRecursion}
use Rattle.chw_terms.specs.declared.program.Program.{Program}
use Rattle.chw_terms.specs.declared.rule.Rule.{Rule}
use Rattle.chw_terms.specs.declared.scene.Made.{Made}
use Rattle.step_search.specs.Examples.{TwoPlaces, OnePlaceOnce, NothingToSee}
use Rattle.step_search.specs.Seen.{AreDifferent, IsSeen, StatePath}

pub two_places : TwoPlaces
two_places = record {
  things = 1 ∷ 2 ∷ [];
  different = (((λ is. omega (arith, is)), tt), (tt, tt));
  each = (omega arith, (omega arith, tt));
  bound = omega arith;
}

few : (xs : List ℕ) → AreDifferent xs → AllByRecursion (λ (x : ℕ). x ≡ 3) xs → length xs ≤ 1
few [] d e = omega arith
few (x ∷ []) d e = omega arith
few (x ∷ y ∷ xs) d e = absurd (d.0.0 (e.0 ∙ sym e.1.0))

pub one_place_once : OnePlaceOnce
one_place_once g = let l = few g.things g.different g.each in let m = g.bound in omega (arith, l, m)

none_there : (made : List Made) (n : ℕ) (it : Made) → made ≡ [] → slice_get made n ≡ Some it → ⊥
none_there [] n it e h = absurd cc
none_there (x ∷ made) n it e h = absurd cc

nothing_seen : (rules : List Rule) (p : Program) (m : ℕ) (from : List ℕ) (xs : List StatePath)
    → AllByRecursion (IsSeen rules p [] m from) xs → length xs ≡ 0
nothing_seen rules p m from [] h = refl
nothing_seen rules p m from (x ∷ xs) h = absurd (none_there [] x.number h.0.active.it refl h.0.active.is)

pub nothing_to_see : NothingToSee
nothing_to_see rules p m from before after g =
    let none = nothing_seen rules p m from g.things g.each in
    nowhere (length rules) (length g.things) before after none g.bound
  where
    nowhere : (most n a b : ℕ) → n ≡ 0 → b ≤ a + most * n → b ≤ a
    nowhere most n a b is l =
        let all : most * n ≡ most * 0 = ap (λ k. most * k) is in omega (arith, l, all)
