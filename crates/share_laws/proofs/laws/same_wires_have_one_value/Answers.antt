use Rattle.share_laws.proofs.Values.{known_value, one_of_same}
use Rattle.share_laws.proofs.laws.same_wires_have_one_value.Goals as goal

pub returns : goal.returns
returns c = record {
  same = λ flat h v w a b sound no_loop fits s x y. one_of_same flat sound no_loop h v w a b fits s x y;
  known = λ flat h w bits sound no_loop fits k. known_value flat sound no_loop w bits k h fits;
}
