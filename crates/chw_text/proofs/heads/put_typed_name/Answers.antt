use Rattle.chw_text.proofs.Spaces.{puts}
use Rattle.chw_text.proofs.heads.put_typed_name.Goals as goal

pub returns : goal.returns
returns c = puts (puts (puts c.in_ok-put_word.ensures c.in_ok-put_sign.ensures) c.in_ok-put_type.ensures) c.in_ok-put_sign-2.ensures
