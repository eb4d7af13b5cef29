use Rattle.std.proofs.Common.{refl}
use Rattle.kept_letrecs.proofs.Bare.{bare_instance}
use Rattle.kept_letrecs.proofs.laws.bare_letrecs.Goals as goal

pub returns : goal.returns
returns c o at r g e new h = bare_instance h g e refl
