use Rattle.rewriting.proofs.Runs.{one_run}
use Rattle.rewriting.proofs.rule_laws.one_run.Goals as goal

pub returns : goal.returns
returns c rules p n ss ts xs ys h g = let same = one_run c.one_place.ensures.place h g in (same.steps, same.state)
