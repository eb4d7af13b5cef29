use Rattle.chw_text.proofs.Spaces.{puts}
use Rattle.chw_text.proofs.heads.put_vec.Goals as goal

pub returns : goal.returns
returns c = puts (puts c.in_ok-put_sign.ensures c.in_ok-put_type_argument.ensures) c.in_ok-put_sign-2.ensures
