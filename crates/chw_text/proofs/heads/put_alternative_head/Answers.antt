use Rattle.chw_text.proofs.Spaces.{puts}
use Rattle.chw_text.proofs.heads.put_alternative_head.Goals as goal

pub returns : goal.returns
returns c = puts c.in_ok-put_pattern.ensures c.in_ok-put_sign.ensures
