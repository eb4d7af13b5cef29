use Rattle.chw_terms.proofs.Renamed.{types_types, types_ids}
use Rattle.chw_terms.proofs.laws.renaming_types.Goals as goal

pub returns : goal.returns
returns c = record { twice = types_types; none = types_ids }
