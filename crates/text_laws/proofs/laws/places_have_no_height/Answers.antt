use Rattle.text_laws.proofs.Heights.{same_height}
use Rattle.text_laws.proofs.laws.places_have_no_height.Goals as goal

pub returns : goal.returns
returns c = same_height
