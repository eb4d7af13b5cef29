use Rattle.waves.proofs.Widths.{value_widths}
use Rattle.waves.proofs.laws.values_have_their_widths.Goals as goal

pub returns : goal.returns
returns c = value_widths
