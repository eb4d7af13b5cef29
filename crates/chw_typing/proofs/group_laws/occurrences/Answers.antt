use Rattle.chw_typing.proofs.Occurrences.{occurs_brought, occurs_put}
use Rattle.chw_typing.proofs.group_laws.occurrences.Goals as goal

pub returns : goal.returns
returns c = record { after_renaming = occurs_brought; after_putting = occurs_put }
