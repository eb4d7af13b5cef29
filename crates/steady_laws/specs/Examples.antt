-- Worked examples of what is steady and what isn't.
use Rattle.std.specs.Prelude.{◌≡◌}
use Rattle.chw_meaning.specs.Values.{applied, sample}
use Rattle.chw_meaning.specs.Writing.{bare, here, ticks, shown, is_word}
use Rattle.chw_meaning.specs.Designs.{a_clock, counter, plus_one}
use Rattle.steady_laws.specs.Steady.{IsSteady, SteadyThunk}

-- `\(x : Unsigned 8) . addU @8 x 1u8` is steady
abbrev pub FunctionOfValues : Type 0
FunctionOfValues = IsSteady bare plus_one

-- a counter isn't: at the first event it is 0, and at the second 1
pub record CounterMoves : Type 0 where
  pub not_steady : IsSteady bare (counter a_clock) → ⊥
  pub first : shown bare (here (counter a_clock)) (ticks 1) ≡ is_word 8 0
  pub second : shown bare (here (counter a_clock)) (ticks 2) ≡ is_word 8 1

-- what the counter is at the second event stays so, and so does the function on it
abbrev pub SampleStays : Type 0
SampleStays = SteadyThunk bare (applied (here plus_one) (sample (here (counter a_clock)) (ticks 2)))
