use Rattle.blif_text.proofs.BlastRight.{right}
use Rattle.blif_text.proofs.laws.blasted_bits_are_right.Goals as goal

pub returns : goal.returns
returns c = λ flat sound hold small. right (record {
  once = c.names_are_driven_once.ensures;
  known = c.names_are_known.ensures;
  order = c.nodes_drive_in_order.ensures;
}) flat sound hold small
