use Rattle.answers.proofs.Compilation.Ends.{is_few, is_run}
use Rattle.answers.proofs.compiled.laws.ends_are_runs.Goals as goal

pub returns : goal.returns
returns = λ c p budget state e. (is_run e, is_few e)
