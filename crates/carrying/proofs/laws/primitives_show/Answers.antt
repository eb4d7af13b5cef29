use Rattle.carrying.proofs.Truths.{test_shows}
use Rattle.carrying.proofs.Words.{primitive_shows}
use Rattle.carrying.proofs.laws.primitives_show.Goals as goal

pub returns : goal.returns
returns c = record {
  words = λ p q types es γ δ h words s n b gives shown plain has. primitive_shows p q types es γ δ h words s n b c.same_naturals_mean_one_number.ensures gives shown plain has;
  tests = λ p q types es γ δ h words b others gives shown test begins. test_shows p q types es γ δ h words b others c.same_naturals_mean_one_number.ensures gives shown test begins;
}
