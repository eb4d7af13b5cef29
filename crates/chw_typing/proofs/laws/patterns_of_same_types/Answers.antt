use Rattle.chw_types.proofs.SameLaws.{same_self}
use Rattle.chw_typing.proofs.Patterns.{binds_same, one_binding}
use Rattle.chw_typing.proofs.laws.patterns_of_same_types.Goals as goal

pub returns : goal.returns
returns c = record {
  kept = λ s kinds u v q bound j h k x b. binds_same b h j v k x;
  one = λ s kinds u q bound bound' j h k b d. one_binding b d h j k (same_self u);
}
