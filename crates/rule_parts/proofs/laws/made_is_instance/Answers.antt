use Rattle.rule_parts.proofs.Instances.{made_is_instance, instance_is_made}
use Rattle.rule_parts.proofs.laws.made_is_instance.Goals as goal

pub returns : goal.returns
returns c = record {
  made = λ o at r e e' t m h. made_is_instance m h;
  instance = λ o at r e e' i h. instance_is_made i h;
}
