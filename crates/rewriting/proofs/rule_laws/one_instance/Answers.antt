use Rattle.std.proofs.Common.{refl}
use Rattle.rewriting.proofs.Makes.{one_instance}
use Rattle.rewriting.proofs.rule_laws.one_instance.Goals as goal

pub returns : goal.returns
returns c o at r e a b h g = one_instance h g refl
