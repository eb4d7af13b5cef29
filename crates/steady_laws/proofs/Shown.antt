-- The examples.
use Rattle.std.proofs.Common.{ℕ, refl, subst}
use Rattle.chw_bits.specs.Bits.{bits_of}
use Rattle.chw_types.specs.TypeMoves.{rename, up, sub}
use Rattle.chw_types.specs.SamePromises.{natural_value}
use Rattle.chw_terms.specs.Evaluated.{evaluated}
use Rattle.chw_meaning.specs.Values.{Value, bits}
use Rattle.chw_meaning.specs.Eval.{Forces}
use Rattle.chw_meaning.specs.Run.{zero_by, eval}
use Rattle.chw_meaning.specs.Writing.{bare, here, ticks}
use Rattle.chw_meaning.specs.Designs.{a_clock, counter}
use Rattle.chw_meaning.proofs.Once.{forces_once}
use Rattle.chw_meaning.proofs.ShownSound.{shown_is_so}
use Rattle.steady_laws.specs.Steady.{SteadyValue, steady_bits, steady_closed, steady_applied, steady_sample, steady_none}
use Rattle.steady_laws.specs.Examples.{FunctionOfValues, CounterMoves, SampleStays}

pub function_of_values : FunctionOfValues
function_of_values = ((tt, tt), tt)

pub counter_moves : CounterMoves
unfolding eval zero_by sub rename up natural_value evaluated
counter_moves = record { not_steady = λ s. s.0.0.0.0; first = refl; second = refl }

one_at_second : (n : ℕ) (v : Value) → Forces bare n (here (counter a_clock)) (ticks 2) v → SteadyValue bare v
one_at_second n v a =
    let one = shown_is_so bare (here (counter a_clock)) (ticks 2) (bits (bits_of 8 1)) counter_moves.second in
    subst (SteadyValue bare) (forces_once one.1 a).1 steady_bits

pub sample_stays : SampleStays
sample_stays = steady_applied (steady_closed function_of_values steady_none) (steady_sample one_at_second)
