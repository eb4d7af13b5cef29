use Rattle.carrying.proofs.Vectors.{vector_carries, element_shows, vget_shows, vat_shows}
use Rattle.carrying.proofs.laws.vectors_carry.Goals as goal

pub returns : goal.returns
returns c = record {
  vector = vector_carries;
  element = element_shows;
  vget = λ p n t i m a w j v γ δ h b has is l s. vget_shows p n t i m a w j v γ δ h b c.same_naturals_mean_one_number.ensures has is l s;
  vat = λ p n t m k a s k' w last v i γ δ h b x has is many shown long index. vat_shows p n t m k a s k' w last v i γ δ h b x c.same_naturals_mean_one_number.ensures has is many shown long index;
}
