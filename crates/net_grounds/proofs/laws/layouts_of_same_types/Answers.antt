use Rattle.layout_laws.proofs.SameLayout.{same_number, measured_same, zero_same}
use Rattle.chw_typing.proofs.SameNames.{representable_same, leaves_same}
use Rattle.net_grounds.proofs.laws.layouts_of_same_types.Goals as goal

pub returns : goal.returns
returns c = record {
  same_number = same_number;
  measured_same = measured_same;
  zero_same = zero_same;
  representable_same = representable_same;
  leaves_same = leaves_same;
}
