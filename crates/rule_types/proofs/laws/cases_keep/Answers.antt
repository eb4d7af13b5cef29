use Rattle.rule_types.proofs.Cases.{cases_keep}
use Rattle.rule_types.proofs.CasesComplete.{cases_keep_complete}
use Rattle.rule_types.proofs.laws.cases_keep.Goals as goal

pub returns : goal.returns
returns c = record {
  types = λ o at r e e' h f t d. cases_keep o at h f t d;
  complete = λ o at r e e' f h. cases_keep_complete o at f h;
}
