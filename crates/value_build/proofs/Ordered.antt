-- Numbers that stand at no place of an order.
use Rattle.std.proofs.Common.{◌≡◌, ◌∙◌, ap, sym, refl, ℕ, suc, ◌<◌, ◌≤◌, ◌==◌, Bool, true, false, if◌then◌else◌, arith, eqb-true, List, [], ◌∷◌, length}
use Rattle.std.specs.List.{AllByRecursion}
use Rattle.net_built.specs.Circuits.{place_in}
use Rattle.value_build.specs.Places.{HaveNoPlace}

differs : (b : Bool) (k m : ℕ) → b ≡ (k == m) → k < m → b ≡ false
differs true k m e l = let same : k ≡ m = eqb-true k m (sym e) in absurd (omega (arith, same, l))
differs false k m e l = refl

-- the place of one past all that stand there
no_place : (order : List ℕ) (count m : ℕ) → AllByRecursion (λ k. k < count) order → count ≤ m → length order ≡ place_in order m
no_place [] count m below l = refl
no_place (k ∷ order) count m below l =
    let here : (k == m) ≡ false = differs (k == m) k m refl (omega (arith, below.0, l)) in
    ap suc (no_place order count m below.1 l) ∙ ap (λ b. if b then 0 else suc (place_in order m)) (sym here)

-- the number behind all places, where the order has none that is too great
pub none_placed : (order places : List ℕ) (count none : ℕ) → AllByRecursion (λ k. k < count) order → none ≡ length order → length places ≡ count
    → HaveNoPlace order places none
none_placed order places count none below is many m l = is ∙ no_place order count m below (omega (arith, many, l))
