use Rattle.rule_types.proofs.Primitives.{primitives_keep}
use Rattle.rule_types.proofs.PrimitivesComplete.{primitives_keep_complete}
use Rattle.rule_types.proofs.laws.primitives_keep.Goals as goal

pub returns : goal.returns
returns c = record {
  types = λ o at r e e' h f t d. primitives_keep o at h f t d;
  complete = λ o at r e e' p f h. primitives_keep_complete o at p f h;
}
