-- The small terms show what they should, by computation.
use Rattle.std.proofs.Common.{refl}
use Rattle.chw_types.specs.TypeMoves.{rename, up, sub}
use Rattle.chw_types.specs.SamePromises.{natural_value}
use Rattle.chw_terms.specs.Evaluated.{evaluated}
use Rattle.chw_meaning.specs.Run.{zero_by, eval}
use Rattle.chw_meaning.specs.Corners.{LazyCases, OtherCases, Recursion, Polymorphism, SignalsOfFunctions, PartialConstructors, VectorsOfSignals, OneElement, Indices, Replacing, Folds, Orders, WidthZero, Words, Turns}

pub lazy_cases : LazyCases
unfolding eval zero_by sub rename up natural_value evaluated
lazy_cases = (refl, refl, refl)

pub other_cases : OtherCases
unfolding eval zero_by sub rename up natural_value evaluated
other_cases = (refl, refl, refl, refl, refl, refl)

pub recursion : Recursion
unfolding eval zero_by sub rename up natural_value evaluated
recursion = (refl, refl, refl, refl, refl)

pub polymorphism : Polymorphism
unfolding eval zero_by sub rename up natural_value evaluated
polymorphism = refl

pub signals_of_functions : SignalsOfFunctions
unfolding eval zero_by sub rename up natural_value evaluated
signals_of_functions = (refl, refl, refl, refl, refl, refl)

pub partial_constructors : PartialConstructors
unfolding eval zero_by sub rename up natural_value evaluated
partial_constructors = (refl, refl)

pub vectors_of_signals : VectorsOfSignals
unfolding eval zero_by sub rename up natural_value evaluated
vectors_of_signals = (refl, refl)

pub one_element : OneElement
unfolding eval zero_by sub rename up natural_value evaluated
one_element = (refl, refl)

pub indices : Indices
unfolding eval zero_by sub rename up natural_value evaluated
indices = (refl, refl, refl, refl)

pub replacing : Replacing
unfolding eval zero_by sub rename up natural_value evaluated
replacing = (refl, refl, refl, refl)

pub folds : Folds
unfolding eval zero_by sub rename up natural_value evaluated
folds = (refl, refl, refl)

pub orders : Orders
unfolding eval zero_by sub rename up natural_value evaluated
orders = (refl, refl, refl, refl, refl, refl, refl, refl, refl, refl)

pub width_zero : WidthZero
unfolding eval zero_by sub rename up natural_value evaluated
width_zero = (refl, refl, refl, refl, refl, refl, refl)

pub words : Words
unfolding eval zero_by sub rename up natural_value evaluated
words = (refl, refl, refl, refl)

pub turns : Turns
unfolding eval zero_by sub rename up natural_value evaluated
turns = (refl, refl)
