use Rattle.chw_types.proofs.KindsFound.{one_kind}
use Rattle.chw_types.proofs.laws.one_kind.Goals as goal

pub returns : goal.returns
returns c datas domains scope t j k d e = one_kind d e
