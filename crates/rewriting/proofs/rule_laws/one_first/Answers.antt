use Rattle.rewriting.proofs.Runs.{one_state, first_leads}
use Rattle.rewriting.proofs.Steps.{one_step, one_first_place}
use Rattle.rewriting.proofs.rule_laws.one_first.Goals as goal

pub returns : goal.returns
returns c = record {
  step = λ rules p made w v e f h g. let place = one_first_place h g in (place, (one_step c.one_place.ensures.place h.step.1 g.step.1 place).result);
  leads = first_leads;
  state = λ rules p made xs ys s t h g. let same = one_state c.one_place.ensures.place h g in (same.step, same.state);
}
