use Rattle.chw_layout.proofs.Tags.{tag_suffices, tag_shortest}
use Rattle.chw_layout.proofs.laws.tags.Goals as goal

pub returns : goal.returns
returns c = record { suffices = tag_suffices; shortest = tag_shortest }
