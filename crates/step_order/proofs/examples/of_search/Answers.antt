use Rattle.step_order.proofs.Shown.{above_sought, below_earlier_passed, below_sought}
use Rattle.step_order.proofs.Shown.{earlier_passed, later_sought, place_sought}
use Rattle.step_order.proofs.examples.of_search.Goals as goal

pub returns : goal.returns
returns c = record {
  place = place_sought;
  below = below_sought;
  above = above_sought;
  later = later_sought;
  earlier = earlier_passed;
  below_earlier = below_earlier_passed;
}
