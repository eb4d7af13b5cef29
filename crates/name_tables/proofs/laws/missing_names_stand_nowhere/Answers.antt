use Rattle.name_tables.proofs.Found.{no_place}
use Rattle.name_tables.proofs.laws.missing_names_stand_nowhere.Goals as goal

pub returns : goal.returns
returns c = no_place
