use Rattle.share_laws.proofs.Soundness.{no_more}
use Rattle.share_laws.proofs.laws.no_more_cells.Goals as goal

pub returns : goal.returns
returns c = λ flat shared sound s. no_more flat shared sound s
