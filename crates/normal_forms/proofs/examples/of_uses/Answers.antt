use Rattle.normal_forms.proofs.Shown.{whole_of_first, uses_itself}
use Rattle.normal_forms.proofs.examples.of_uses.Goals as goal

pub returns : goal.returns
returns c = record { whole = whole_of_first; itself = uses_itself }
