-- The worked examples.
use Rattle.std.proofs.Common.{inl, inr, refl, arith, [], ◌∷◌}
use Rattle.chw_typing.specs.Paths.{IsEarlier}
use Rattle.step_order.specs.Examples.{AboveIsSought, BelowEarlierIsPassed, BelowIsSought}
use Rattle.step_order.specs.Examples.{EarlierIsPassed, LaterIsSought, PlaceIsSought, from_here}

pub place_sought : PlaceIsSought
place_sought = inr ([], refl)

pub below_sought : BelowIsSought
below_sought = inl below
  where
    below : IsEarlier (1 ∷ 0 ∷ 3 ∷ []) from_here → ⊥
    below (inl l) = omega (arith, l)
    below (inr (is, inl l)) = omega (arith, l)
    below (inr (is, inr h)) = h.1

pub above_sought : AboveIsSought
above_sought = inr (0 ∷ [], refl)

pub later_sought : LaterIsSought
later_sought = inl later
  where
    later : IsEarlier (2 ∷ []) from_here → ⊥
    later (inl l) = omega (arith, l)
    later (inr h) = omega (arith, h.0)

pub earlier_passed : EarlierIsPassed
earlier_passed (inl not) = not (inl (omega arith))
earlier_passed (inr (rest, is)) = absurd cc

pub below_earlier_passed : BelowEarlierIsPassed
below_earlier_passed (inl not) = not (inl (omega arith))
below_earlier_passed (inr (rest, is)) = absurd cc
