use Rattle.net_grounds.proofs.laws.bits_of_vectors.Goals as goal

pub returns : goal.returns
returns c = record {
  vector_carries = c.vectors_carry.ensures.vector;
  element_shows = c.vectors_carry.ensures.element;
  vget_shows = c.vectors_carry.ensures.vget;
  vat_shows = c.vectors_carry.ensures.vat;
}
