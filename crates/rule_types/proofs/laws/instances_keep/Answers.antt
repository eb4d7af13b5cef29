use Rattle.rule_types.proofs.Instances.{instances_keep, instances_keep_complete}
use Rattle.rule_types.proofs.laws.instances_keep.Goals as goal

pub returns : goal.returns
returns c = record {
  types = λ o at r e e' w h f other t d. instances_keep o at w h f other t d;
  complete = λ o at r e e' w h f k. instances_keep_complete o at w h f k;
}
