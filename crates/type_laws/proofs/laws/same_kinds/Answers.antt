use Rattle.type_laws.proofs.OneKind.{same_kind}
use Rattle.type_laws.proofs.laws.same_kinds.Goals as goal

pub returns : goal.returns
returns c datas domains scope t u j k h d e = same_kind h d e
