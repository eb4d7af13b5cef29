use Rattle.chw_meaning.proofs.CornersShown.{recursion, polymorphism, signals_of_functions, partial_constructors}
use Rattle.chw_meaning.proofs.examples.of_functions.Goals as goal

pub returns : goal.returns
returns c = record {
  recursion = recursion;
  polymorphism = polymorphism;
  signals = signals_of_functions;
  partial = partial_constructors;
}
