use Rattle.carrying.proofs.Terms.{applied_shows, function_shows, call_shows}
use Rattle.carrying.proofs.laws.functions_show.Goals as goal

pub returns : goal.returns
returns c = record {
  applied = λ p t n f a e γ δ h b d s. applied_shows d s;
  several = function_shows;
  call = call_shows;
}
