use Rattle.net_means.proofs.NetFits.Beginning.{runs_begin}
use Rattle.net_means.proofs.net_fits.laws.runs_begin_with_top.Goals as goal

pub returns : goal.returns
returns c = λ rules p n steps made run. runs_begin c.origins_stay.ensures.runs rules p n steps made run
