use Rattle.carrying.proofs.Spines.{con_whole, prim_whole}
use Rattle.carrying.proofs.Truths.{bool_width}
use Rattle.net_grounds.proofs.laws.bits_of_primitives.Goals as goal

pub returns : goal.returns
returns c = record {
  con_whole = con_whole;
  prim_whole = prim_whole;
  primitive_shows = c.primitives_show.ensures.words;
  test_shows = c.primitives_show.ensures.tests;
  bool_width = bool_width;
}
