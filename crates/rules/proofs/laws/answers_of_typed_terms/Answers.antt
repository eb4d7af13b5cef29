use Rattle.rules.proofs.Answered.{are_instances, has_type, keeps}
use Rattle.rules.proofs.laws.answers_of_typed_terms.Goals as goal

pub returns : goal.returns
returns c = record {
  instances = λ o at r e answer i typed m. are_instances o at r e answer c.made_is_instance.ensures.made c.made_is_instance.ensures.instance i typed m;
  untyped = λ o at r e no e' h. no (has_type h);
  kept = λ scene at r e answer other h. keeps scene at r e answer c.names_keep.ensures.scenes c.instances_keep.ensures.types c.instances_keep.ensures.complete other h;
}
