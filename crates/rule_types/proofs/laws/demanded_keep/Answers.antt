use Rattle.rule_types.proofs.Demanded.{demanded_keep, demanded_keep_complete}
use Rattle.rule_types.proofs.laws.demanded_keep.Goals as goal

pub returns : goal.returns
returns c = record {
  types = λ o at r e e' h f t d. demanded_keep o at h f t d;
  complete = λ o at r e e' f h. demanded_keep_complete o at f h;
}
