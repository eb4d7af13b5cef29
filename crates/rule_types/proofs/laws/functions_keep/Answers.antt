use Rattle.rule_types.proofs.Functions.{functions_keep, functions_keep_complete}
use Rattle.rule_types.proofs.laws.functions_keep.Goals as goal

pub returns : goal.returns
returns c = record {
  types = λ o at r e e' h f t d. functions_keep o at h f t d;
  complete = λ o at r e e' f h. functions_keep_complete o at o.program.datas f h;
}
