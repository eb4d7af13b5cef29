use Rattle.rewriting.proofs.Around.{below_around, active_around, place_around}
use Rattle.rewriting.proofs.place_laws.active_is_around.Goals as goal

pub returns : goal.returns
returns c = record {
  step = λ o at at' e x t p h typed d r. below_around r h typed;
  steps = λ o at at' e x t p h typed d r. active_around r h typed t d;
  place = place_around;
}
