-- What the small designs show: after events in which these domains tick, of which the last one is
-- the present event.
use Rattle.std.specs.Prelude.{◌≡◌, ℕ, List, [], ◌∷◌, Option}
use Rattle.chw_terms.specs.declared.program.Program.{Program}
use Rattle.chw_clock.specs.declared.event.Event.{Event}
use Rattle.chw_meaning.specs.Values.{Value, Thunk}
use Rattle.chw_meaning.specs.Writing.{bare, here, tick, ticks, events, reset_tick, reset_ticks, shown, is_word}
use Rattle.chw_meaning.specs.Designs.{a_clock, counter, accumulator, sums, sums_of_products, memory, two_signals, left_of, right_of, crossing, swapping, through_a_pair, signed_sum, signed_shift, filter}

-- the domains that tick
abbrev pub a_ticks : List ℕ
a_ticks = 0 ∷ []

abbrev pub b_ticks : List ℕ
b_ticks = 1 ∷ []

abbrev pub both_tick : List ℕ
both_tick = 0 ∷ 1 ∷ []

-- after so many events with ticks of A alone
abbrev pub at_tick : Program → Thunk → ℕ → Option Value
at_tick p th n = shown p th (ticks n)

-- 0, 1, 2 and 3
abbrev pub CounterShown : Type 0
CounterShown =
    (at_tick bare (here (counter a_clock)) 1 ≡ is_word 8 0)
    × (at_tick bare (here (counter a_clock)) 2 ≡ is_word 8 1)
    × (at_tick bare (here (counter a_clock)) 3 ≡ is_word 8 2)
    × (at_tick bare (here (counter a_clock)) 4 ≡ is_word 8 3)

-- on the inputs 5, 7 and 0: 0, 5 and 12
abbrev pub AccumulatorShown : Type 0
AccumulatorShown =
    (at_tick bare accumulator 1 ≡ is_word 8 0)
    × (at_tick bare accumulator 2 ≡ is_word 8 5)
    × (at_tick bare accumulator 3 ≡ is_word 8 12)

-- on 1 and 1, 2 and 2, 3 and 3, 4 and 4: 0, 1, 5 and 14
abbrev pub SumsShown : Type 0
SumsShown =
    (at_tick sums sums_of_products 1 ≡ is_word 12 0)
    × (at_tick sums sums_of_products 2 ≡ is_word 12 1)
    × (at_tick sums sums_of_products 3 ≡ is_word 12 5)
    × (at_tick sums sums_of_products 4 ≡ is_word 12 14)

-- first zeros; then 20, twice, since a read at the event of a write shows the word before it;
-- then 99; then zeros for the place 7, which is outside; and 10, twice, since the write at 7 did
-- nothing
abbrev pub MemoryShown : Type 0
MemoryShown =
    (at_tick bare memory 1 ≡ is_word 8 0)
    × (at_tick bare memory 2 ≡ is_word 8 20)
    × (at_tick bare memory 3 ≡ is_word 8 20)
    × (at_tick bare memory 4 ≡ is_word 8 99)
    × (at_tick bare memory 5 ≡ is_word 8 0)
    × (at_tick bare memory 6 ≡ is_word 8 10)
    × (at_tick bare memory 7 ≡ is_word 8 10)

-- A, B, A, both, B: the counter moves at ticks of A alone, and the register of B takes what it
-- was at the last tick of B; it shows its first value while A alone ticks, and what it took while
-- A alone ticks after it
abbrev pub CrossingShown : Type 0
CrossingShown =
    (shown two_signals (left_of crossing) (events (a_ticks ∷ [])) ≡ is_word 8 0)
    × (shown two_signals (right_of crossing) (events (a_ticks ∷ b_ticks ∷ [])) ≡ is_word 8 0)
    × (shown two_signals (left_of crossing) (events (a_ticks ∷ b_ticks ∷ [])) ≡ is_word 8 1)
    × (shown two_signals (left_of crossing) (events (a_ticks ∷ b_ticks ∷ a_ticks ∷ [])) ≡ is_word 8 1)
    × (shown two_signals (left_of crossing) (events (a_ticks ∷ b_ticks ∷ a_ticks ∷ both_tick ∷ [])) ≡ is_word 8 2)
    × (shown two_signals (right_of crossing) (events (a_ticks ∷ b_ticks ∷ a_ticks ∷ both_tick ∷ [])) ≡ is_word 8 1)
    × (shown two_signals (right_of crossing) (events (a_ticks ∷ b_ticks ∷ a_ticks ∷ both_tick ∷ b_ticks ∷ [])) ≡ is_word 8 2)
    × (shown two_signals (right_of crossing) (ticks 3) ≡ is_word 8 0)
    × (shown two_signals (right_of crossing) (events (a_ticks ∷ b_ticks ∷ a_ticks ∷ a_ticks ∷ a_ticks ∷ [])) ≡ is_word 8 1)

-- both tick together and take each other's value: 1 and 2, 2 and 1, 1 and 2
abbrev pub SwappingShown : Type 0
SwappingShown =
    (shown two_signals (left_of swapping) (events (both_tick ∷ [])) ≡ is_word 8 1)
    × (shown two_signals (right_of swapping) (events (both_tick ∷ [])) ≡ is_word 8 2)
    × (shown two_signals (left_of swapping) (events (both_tick ∷ both_tick ∷ [])) ≡ is_word 8 2)
    × (shown two_signals (right_of swapping) (events (both_tick ∷ both_tick ∷ [])) ≡ is_word 8 1)
    × (shown two_signals (left_of swapping) (events (both_tick ∷ both_tick ∷ both_tick ∷ [])) ≡ is_word 8 1)
    × (shown two_signals (right_of swapping) (events (both_tick ∷ both_tick ∷ both_tick ∷ [])) ≡ is_word 8 2)

-- a pair whose parts are made of each other has both parts, 0 and 0
abbrev pub PairShown : Type 0
PairShown =
    (at_tick two_signals (left_of through_a_pair) 1 ≡ is_word 8 0)
    × (at_tick two_signals (right_of through_a_pair) 1 ≡ is_word 8 0)
    × (at_tick two_signals (left_of through_a_pair) 3 ≡ is_word 8 0)

-- 7 + 1 wraps to -8, -3 + 1 is -2; 7 shifted down is 3, and -3 is -2
abbrev pub SignedShown : Type 0
SignedShown =
    (at_tick bare signed_sum 1 ≡ is_word 4 8)
    × (at_tick bare signed_shift 1 ≡ is_word 4 3)
    × (at_tick bare signed_sum 2 ≡ is_word 4 14)
    × (at_tick bare signed_shift 2 ≡ is_word 4 14)

-- on 1, 0, 0, 0 and 0: 1, 2, 3, 4 and 0
abbrev pub FilterShown : Type 0
FilterShown =
    (at_tick bare filter 1 ≡ is_word 16 1)
    × (at_tick bare filter 2 ≡ is_word 16 2)
    × (at_tick bare filter 3 ≡ is_word 16 3)
    × (at_tick bare filter 4 ≡ is_word 16 4)
    × (at_tick bare filter 5 ≡ is_word 16 0)

-- an event of A, the same with the reset of A asserted, and an event of B
abbrev pub of_a : Event
of_a = tick a_ticks

abbrev pub reset_of_a : Event
reset_of_a = reset_tick a_ticks a_ticks

abbrev pub of_b : Event
of_b = tick b_ticks

-- what the counter of A shows after these events, of which the first is the present one
abbrev pub counted : List Event → Option Value
counted h = shown bare (here (counter a_clock)) h

-- a reset in the present event does nothing yet; after it the counter is 0 at the next event, and
-- goes on from there
abbrev pub OneResetShown : Type 0
OneResetShown =
    (counted (reset_of_a ∷ of_a ∷ []) ≡ is_word 8 1)
    × (counted (of_a ∷ reset_of_a ∷ of_a ∷ []) ≡ is_word 8 0)
    × (counted (of_a ∷ of_a ∷ reset_of_a ∷ of_a ∷ []) ≡ is_word 8 1)

-- a reset in the first event, and resets in two events in a row
abbrev pub MoreResetsShown : Type 0
MoreResetsShown =
    (counted (of_a ∷ reset_of_a ∷ []) ≡ is_word 8 0)
    × (counted (of_a ∷ of_a ∷ reset_of_a ∷ []) ≡ is_word 8 1)
    × (counted (of_a ∷ reset_of_a ∷ reset_of_a ∷ of_a ∷ of_a ∷ []) ≡ is_word 8 0)

-- while B alone ticks, the counter stays as the last event of A left it; a reset of B doesn't
-- reach it
abbrev pub OtherResetShown : Type 0
OtherResetShown =
    (counted (of_b ∷ of_b ∷ reset_of_a ∷ of_a ∷ []) ≡ is_word 8 0)
    × (counted (of_a ∷ of_b ∷ reset_of_a ∷ of_a ∷ []) ≡ is_word 8 0)
    × (counted (of_a ∷ reset_tick b_ticks b_ticks ∷ of_a ∷ of_a ∷ []) ≡ is_word 8 2)

-- a block RAM reads and writes in a reset as in any event: what it shows is the same as above
abbrev pub ResetMemoryShown : Type 0
ResetMemoryShown =
    (shown bare memory (reset_ticks 3) ≡ is_word 8 20)
    × (shown bare memory (reset_ticks 4) ≡ is_word 8 99)
