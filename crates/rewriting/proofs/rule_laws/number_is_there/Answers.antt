use Rattle.rewriting.proofs.Runs.{number_is_there}
use Rattle.rewriting.proofs.rule_laws.number_is_there.Goals as goal

pub returns : goal.returns
returns c p made xs at e it m b i a = number_is_there b i a
