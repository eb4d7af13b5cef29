use Rattle.chw_typing.proofs.Complete.{part_complete}
use Rattle.rewriting.proofs.Parts.{active_is_part}
use Rattle.rewriting.proofs.place_laws.active_is_complete.Goals as goal

pub returns : goal.returns
returns c o at at' e x p datas h r = part_complete p datas e x h (active_is_part r)
