-- The examples hold by computation.
use Rattle.std.proofs.Common.{refl}
use Rattle.chw_types.specs.TypeMoves.{rename, up, sub}
use Rattle.chw_types.specs.SamePromises.{natural_value}
use Rattle.chw_terms.specs.Evaluated.{evaluated}
use Rattle.chw_meaning.specs.Run.{zero_by, eval}
use Rattle.chw_meaning.specs.Shown.{CounterShown, AccumulatorShown, SumsShown, MemoryShown, CrossingShown, SwappingShown, PairShown, SignedShown, FilterShown, OneResetShown, MoreResetsShown, OtherResetShown, ResetMemoryShown}

pub counter_shown : CounterShown
unfolding eval zero_by sub rename up natural_value evaluated
counter_shown = (refl, refl, refl, refl)

pub accumulator_shown : AccumulatorShown
unfolding eval zero_by sub rename up natural_value evaluated
accumulator_shown = (refl, refl, refl)

pub sums_shown : SumsShown
unfolding eval zero_by sub rename up natural_value evaluated
sums_shown = (refl, refl, refl, refl)

pub memory_shown : MemoryShown
unfolding eval zero_by sub rename up natural_value evaluated
memory_shown = (refl, refl, refl, refl, refl, refl, refl)

pub crossing_shown : CrossingShown
unfolding eval zero_by sub rename up natural_value evaluated
crossing_shown = (refl, refl, refl, refl, refl, refl, refl, refl, refl)

pub swapping_shown : SwappingShown
unfolding eval zero_by sub rename up natural_value evaluated
swapping_shown = (refl, refl, refl, refl, refl, refl)

pub pair_shown : PairShown
unfolding eval zero_by sub rename up natural_value evaluated
pair_shown = (refl, refl, refl)

pub signed_shown : SignedShown
unfolding eval zero_by sub rename up natural_value evaluated
signed_shown = (refl, refl, refl, refl)

pub filter_shown : FilterShown
unfolding eval zero_by sub rename up natural_value evaluated
filter_shown = (refl, refl, refl, refl, refl)

pub one_reset_shown : OneResetShown
unfolding eval zero_by sub rename up natural_value evaluated
one_reset_shown = (refl, refl, refl)

pub more_resets_shown : MoreResetsShown
unfolding eval zero_by sub rename up natural_value evaluated
more_resets_shown = (refl, refl, refl)

pub other_reset_shown : OtherResetShown
unfolding eval zero_by sub rename up natural_value evaluated
other_reset_shown = (refl, refl, refl)

pub reset_memory_shown : ResetMemoryShown
unfolding eval zero_by sub rename up natural_value evaluated
reset_memory_shown = (refl, refl)
