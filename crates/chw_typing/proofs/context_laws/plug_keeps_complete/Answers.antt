use Rattle.chw_typing.proofs.Complete.{part_complete, plug_complete}
use Rattle.chw_typing.proofs.context_laws.plug_keeps_complete.Goals as goal

pub returns : goal.returns
returns c = record { part = λ datas e x p. part_complete p datas e x; kept = λ datas e x y p. plug_complete p datas e x y }
