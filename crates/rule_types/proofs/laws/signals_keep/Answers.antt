use Rattle.rule_types.proofs.Signals.{signals_keep}
use Rattle.rule_types.proofs.SignalsComplete.{signals_keep_complete}
use Rattle.rule_types.proofs.laws.signals_keep.Goals as goal

pub returns : goal.returns
returns c = record {
  types = λ o at r e e' h f other t d. signals_keep o at h f other t d;
  complete = λ o at r e e' f h. signals_keep_complete o at f h;
}
