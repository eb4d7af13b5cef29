use Rattle.normal_forms.proofs.Shown.{width_holds, width_fails}
use Rattle.normal_forms.proofs.examples.of_widths.Goals as goal

pub returns : goal.returns
returns c = record { within = width_holds; over = width_fails }
