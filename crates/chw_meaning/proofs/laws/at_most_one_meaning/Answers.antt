use Rattle.chw_meaning.proofs.MeansOnce.{has_ports_once, means_once}
use Rattle.chw_meaning.proofs.laws.at_most_one_meaning.Goals as goal

pub returns : goal.returns
returns c = record {
  ports = λ p a b x y. has_ports_once x y;
  meaning = λ p h k a b x y. means_once c.encoding_injective.ensures x y;
}
