use Rattle.rule_types.proofs.Operands.{operands_keep, operands_keep_complete}
use Rattle.rule_types.proofs.laws.operands_keep.Goals as goal

pub returns : goal.returns
returns c = record {
  types = λ o at r e e' h f t d. operands_keep o at h f t d;
  complete = λ o at r e e' f h. operands_keep_complete o at f h;
}
