-- The accumulator as a whole program, by computation.
use Rattle.std.proofs.Common.{refl}
use Rattle.chw_types.specs.TypeMoves.{rename, up, sub}
use Rattle.chw_types.specs.SamePromises.{natural_value}
use Rattle.chw_meaning.specs.Laws.{FitIsSo, MeantIsSo}
use Rattle.chw_meaning.specs.Layouts.{measured_by, encoded_by, guessed_by}
use Rattle.chw_meaning.specs.Meant.{yields_by, port_given_by, on_inputs_by, port_leaves_by, type_leaves_by}
use Rattle.chw_terms.specs.Evaluated.{evaluated}
use Rattle.chw_meaning.specs.Run.{zero_by, eval}
use Rattle.chw_meaning.specs.Whole.{WholeProgram}

pub whole_program : FitIsSo → MeantIsSo → WholeProgram
unfolding eval zero_by sub rename up natural_value evaluated measured_by encoded_by guessed_by yields_by port_given_by on_inputs_by port_leaves_by type_leaves_by
whole_program fit meaning = (fit 1000 _ _ _ refl, meaning 1000 _ _ _ _ refl, meaning 1000 _ _ _ _ refl)
