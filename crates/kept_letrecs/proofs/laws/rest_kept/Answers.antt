use Rattle.kept_letrecs.proofs.Kept.{rest_after_side, rest_after_join}
use Rattle.kept_letrecs.proofs.laws.rest_kept.Goals as goal

pub returns : goal.returns
returns c = record { side = rest_after_side; join = rest_after_join }
