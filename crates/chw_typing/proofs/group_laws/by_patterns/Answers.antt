use Rattle.chw_typing.proofs.GroupParts.{none_hidden_by, covered_by}
use Rattle.chw_typing.proofs.group_laws.by_patterns.Goals as goal

pub returns : goal.returns
returns c = record { hidden = none_hidden_by; covered = covered_by }
