use Rattle.std.proofs.Common.{◌≡◌, true}
use Rattle.net_built.proofs.Parts.{parts_once, all_parts_once, lifted_once}
use Rattle.net_built.proofs.ValueSizes.{bound_types, test_count}
use Rattle.chw_typing.proofs.Reaching.{place_of, place_earlier}
use Rattle.net_built.proofs.InOrder.{value_ordered}
use Rattle.net_built.proofs.NoLoops.{normal_free}
use Rattle.normal_form.proofs.There.{each_is_whole}
use Rattle.net_grounds.proofs.laws.parts_of_built_nets.Goals as goal

pub returns : goal.returns
returns c = record {
  parts_once = parts_once;
  all_parts_once = all_parts_once;
  lifted_once = lifted_once;
  bound_types = bound_types;
  test_count = test_count;
  places = λ goes n none. (place_of goes (λ i j. goes i j ≡ true) (λ i j h. h) none n, λ i j l h. place_earlier goes (λ i j. goes i j ≡ true) (λ i j h. h) none n i j l h);
  value_ordered = value_ordered;
  normal_free = normal_free;
  each_is_whole = each_is_whole;
}
