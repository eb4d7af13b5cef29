use Rattle.rule_types.proofs.Operands.{wholes_keep, wholes_keep_complete}
use Rattle.rule_types.proofs.laws.names_in_wholes_keep.Goals as goal

pub returns : goal.returns
returns c = record {
  types = λ o at e e' h f t d. wholes_keep o at h f t d;
  complete = λ o at e e' f h. wholes_keep_complete o at f h;
}
