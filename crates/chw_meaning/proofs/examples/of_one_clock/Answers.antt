use Rattle.chw_meaning.proofs.DesignsShown.{counter_shown, accumulator_shown, sums_shown, signed_shown, filter_shown}
use Rattle.chw_meaning.proofs.examples.of_one_clock.Goals as goal

pub returns : goal.returns
returns c = record {
  counter = counter_shown;
  accumulator = accumulator_shown;
  sums = sums_shown;
  signed = signed_shown;
  filter = filter_shown;
}
