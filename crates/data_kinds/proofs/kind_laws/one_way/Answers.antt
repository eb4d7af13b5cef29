use Rattle.data_kinds.proofs.Same.{one_way}
use Rattle.data_kinds.proofs.kind_laws.one_way.Goals as goal

pub returns : goal.returns
returns c domains ds es same none has has' = one_way domains ds es same has has' none
