use Rattle.chw_meaning.proofs.DesignsShown.{crossing_shown, swapping_shown, pair_shown}
use Rattle.chw_meaning.proofs.examples.of_two_clocks.Goals as goal

pub returns : goal.returns
returns c = record {
  crossing = crossing_shown;
  swapping = swapping_shown;
  pair = pair_shown;
}
