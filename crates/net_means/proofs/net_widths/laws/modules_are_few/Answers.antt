use Rattle.net_means.proofs.NetWidths.Count.{modules_few}
use Rattle.net_means.proofs.net_widths.laws.modules_are_few.Goals as goal

pub returns : goal.returns
returns c = λ p state net of. modules_few c.facts.ensures p state net of
