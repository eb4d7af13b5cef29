use Rattle.chw_typing.proofs.Occurrences.{rename_where}
use Rattle.chw_typing.proofs.group_laws.rename_where_occurs.Goals as goal

pub returns : goal.returns
returns c = rename_where
