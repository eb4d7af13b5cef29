use Rattle.chw_text.proofs.Spaces.{puts}
use Rattle.chw_text.proofs.heads.put_lambda.Goals as goal

pub returns : goal.returns
returns c = puts (puts c.in_ok-put_binder.ensures c.in_ok-put_type.ensures) c.in_ok-put_signs.ensures
