use Rattle.chw_terms.proofs.Renamed.{rename_rename, rename_ids}
use Rattle.chw_terms.proofs.laws.renaming.Goals as goal

pub returns : goal.returns
returns c = record { twice = rename_rename; none = rename_ids }
