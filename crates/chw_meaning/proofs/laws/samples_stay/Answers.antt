use Rattle.chw_meaning.proofs.Still.{sample_still, data_still}
use Rattle.chw_meaning.proofs.laws.samples_stay.Goals as goal

pub returns : goal.returns
returns c = record {
  samples = λ p n th at h g v a. sample_still a;
  values = λ p n d h g v a. data_still a;
}
