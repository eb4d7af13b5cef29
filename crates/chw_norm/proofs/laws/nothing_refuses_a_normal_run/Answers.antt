use Rattle.std.proofs.Common.{refl}
use Rattle.chw_norm.proofs.Normal.{none_refused}
use Rattle.chw_norm.proofs.laws.nothing_refuses_a_normal_run.Goals as goal

pub returns : goal.returns
returns c rules p budget steps others made fault run none few ends =
    none_refused fault c.one_first.ensures.state run none few refl ends
