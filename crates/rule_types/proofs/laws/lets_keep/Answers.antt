use Rattle.rule_types.proofs.Lets.{lets_keep}
use Rattle.rule_types.proofs.LetsComplete.{lets_keep_complete}
use Rattle.rule_types.proofs.laws.lets_keep.Goals as goal

pub returns : goal.returns
returns c = record {
  types = λ o at r e e' h f t d. lets_keep o at h f t d;
  complete = λ o at r e e' f h. lets_keep_complete o at f h;
}
