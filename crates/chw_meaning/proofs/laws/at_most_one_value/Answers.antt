use Rattle.chw_meaning.proofs.Once.{evals_once, forces_once}
use Rattle.chw_meaning.proofs.GivenOnce.{gives_once}
use Rattle.chw_meaning.proofs.laws.at_most_one_value.Goals as goal

pub returns : goal.returns
returns c = record {
  terms = λ p e γ δ h m n v w a b. evals_once a b;
  thunks = λ p th h m n v w a b. forces_once a b;
  given = λ p e t ins h k a b x y. gives_once x y;
}
