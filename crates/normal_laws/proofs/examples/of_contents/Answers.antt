use Rattle.normal_laws.proofs.Memory.{memory_is_normal, larger_is_not_normal, larger_is_blocked}
use Rattle.normal_laws.proofs.examples.of_contents.Goals as goal

pub returns : goal.returns
returns c = record { normal = memory_is_normal; larger = larger_is_not_normal c.one_measure.ensures; blocked = larger_is_blocked }
