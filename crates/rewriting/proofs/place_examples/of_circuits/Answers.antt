use Rattle.rewriting.proofs.PlaceShown.{constant_scrutinee, demanded_functions, first_content, two_steps}
use Rattle.rewriting.proofs.place_examples.of_circuits.Goals as goal

pub returns : goal.returns
returns c = record { scrutinee = constant_scrutinee; functions = demanded_functions; content = first_content; steps = two_steps }
