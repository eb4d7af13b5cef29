use Rattle.blif_text.proofs.OneSaid.{one_bitnet as shown}
use Rattle.blif_text.proofs.laws.one_bitnet.Goals as goal

pub returns : goal.returns
returns c = shown
