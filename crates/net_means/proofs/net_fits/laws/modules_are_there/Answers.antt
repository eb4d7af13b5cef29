use Rattle.net_means.proofs.NetFits.Drivers.{has_module}
use Rattle.net_means.proofs.net_fits.laws.modules_are_there.Goals as goal

pub returns : goal.returns
returns c = λ p state net of. has_module p state net of
