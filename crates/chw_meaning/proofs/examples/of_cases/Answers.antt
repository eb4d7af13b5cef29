use Rattle.chw_meaning.proofs.CornersShown.{lazy_cases, other_cases}
use Rattle.chw_meaning.proofs.Endless.{never, never_looked}
use Rattle.chw_meaning.proofs.examples.of_cases.Goals as goal

pub returns : goal.returns
returns c = record {
  endless = λ p t γ δ h n v a. never a;
  looked_at = λ t e h n v a. never_looked a;
  lazy = lazy_cases;
  others = other_cases;
}
