-- What the worked examples owe.
use Rattle.std.proofs.Common.{◌≡◌, ℕ, zero, suc, ◌-◌, ◌<◌, true, refl, arith, subst, eqb-true}
use Rattle.chw_terms.specs.TermTree.{var}
use Rattle.chw_terms.specs.Occurs.{occurs}
use Rattle.chw_terms.specs.FreeVariables.{occurrences}
use Rattle.chw_typing.specs.GroupExamples.{FirstReached, SecondReached, ThirdNotReached, AllExchanged, EachFreeOnce, some_type, three}
use Rattle.chw_typing.specs.Groups.{Reached, from_body, from_side}

pub first_reached : FirstReached
unfolding occurs
first_reached = from_body (omega arith) refl

pub second_reached : SecondReached
unfolding occurs
second_reached = from_side first_reached refl (omega arith) refl

below_two : (i : ℕ) → Reached three (var 2) i → i < 2
unfolding occurs
below_two i (from_body l o) = let e : 2 ≡ 3 - 1 - i = eqb-true 2 (3 - 1 - i) o in omega (arith, e)
below_two i (from_side {j = zero} {b = b} r is l o) =
    let same : b ≡ (some_type, var 1) = cc in
    let e : 1 ≡ 3 - 1 - i = eqb-true 1 (3 - 1 - i) (subst (λ b. occurs b.1 (3 - 1 - i) ≡ true) same o) in
    omega (arith, e)
below_two i (from_side {j = suc zero} {b = b} r is l o) =
    let same : b ≡ (some_type, var 1) = cc in
    let e : 1 ≡ 3 - 1 - i = eqb-true 1 (3 - 1 - i) (subst (λ b. occurs b.1 (3 - 1 - i) ≡ true) same o) in
    omega (arith, e)
below_two i (from_side {j = suc (suc j)} r is l o) = let h = below_two (suc (suc j)) r in absurd (omega (arith, h))

pub third_not_reached : ThirdNotReached
third_not_reached r = let h = below_two 2 r in absurd (omega (arith, h))

pub all_exchanged : AllExchanged
all_exchanged = refl

pub each_free_once : EachFreeOnce
unfolding occurrences
each_free_once = refl
