use Rattle.chw_typing.proofs.Renamed.{count_renamed}
use Rattle.chw_typing.proofs.TermsPut.{count_put}
use Rattle.chw_typing.proofs.group_laws.counts.Goals as goal

pub returns : goal.returns
returns c = record { renamed = count_renamed; put = count_put }
