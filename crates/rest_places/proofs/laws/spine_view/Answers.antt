use Rattle.rest_places.proofs.Spines.{spine_view}
use Rattle.rest_places.proofs.laws.spine_view.Goals as goal

pub returns : goal.returns
returns c = spine_view
