use Rattle.chw_meaning.proofs.DesignsShown.{one_reset_shown, more_resets_shown, other_reset_shown, reset_memory_shown}
use Rattle.chw_meaning.proofs.examples.of_resets.Goals as goal

pub returns : goal.returns
returns c = record {
  one = one_reset_shown;
  more = more_resets_shown;
  other = other_reset_shown;
  memory = reset_memory_shown;
}
