use Rattle.kept_letrecs.proofs.Joins.{reached_by_join}
use Rattle.kept_letrecs.proofs.laws.reached_after_join.Goals as goal

pub returns : goal.returns
returns c front t cs x back e all inner i l = reached_by_join front t cs x back e all inner i l
