use Rattle.share_laws.proofs.Apart.{nothing_left}
use Rattle.share_laws.proofs.SharedApart.{shared_apart, shared_live}
use Rattle.share_laws.proofs.Soundness.{shared_sound}
use Rattle.share_laws.proofs.laws.nothing_is_left_to_share.Goals as goal

pub returns : goal.returns
returns c = record {
  cells = λ flat shared sound no_loop hold s.
      nothing_left shared (shared_sound flat shared sound s) (shared_apart flat shared sound no_loop hold s) (shared_live flat shared sound no_loop hold s);
  wires = λ flat shared v w sound no_loop hold s same. (shared_apart flat shared sound no_loop hold s).wires v w same;
  known = λ flat shared w bits sound no_loop hold s k. (shared_apart flat shared sound no_loop hold s).known w bits k;
}
