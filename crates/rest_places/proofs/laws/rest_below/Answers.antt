use Rattle.rest_places.proofs.Below.{rest_below}
use Rattle.rest_places.proofs.Smaller.{below_smaller}
use Rattle.rest_places.proofs.Steps.{retyped}
use Rattle.rest_places.proofs.laws.rest_below.Goals as goal

pub returns : goal.returns
returns c = record { below = rest_below c.names_of_modes.ensures.decided; retyped = λ o at e t u p d. retyped p d; smaller = λ o at at' e x path b. below_smaller b }
