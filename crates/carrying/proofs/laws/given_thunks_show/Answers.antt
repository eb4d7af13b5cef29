use Rattle.carrying.proofs.Known.{known_shows, stream_shows}
use Rattle.carrying.proofs.Terms.{sample_shows}
use Rattle.carrying.proofs.laws.given_thunks_show.Goals as goal

pub returns : goal.returns
returns c = record {
  sample = λ p t th g b s h. sample_shows s h;
  data_value = λ p t w d b has e h. known_shows w has e h;
  stream = λ p t w ds d h b has at e. stream_shows w has at e;
}
