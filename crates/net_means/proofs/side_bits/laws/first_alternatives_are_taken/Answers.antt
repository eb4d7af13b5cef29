use Rattle.net_means.proofs.SideBits.Cases.{chosen_first}
use Rattle.net_means.proofs.SideBits.Choices.{first_taken, taken_first}
use Rattle.net_means.proofs.side_bits.laws.first_alternatives_are_taken.Goals as goal

pub returns : goal.returns
returns c = record {
  meaning = λ datas x alts k a first. first_taken first;
  back = taken_first;
  cells = λ datas u whole n wires on alts x k a are size is first. chosen_first c.facts.ensures c.same_values.ensures datas u whole n wires on alts x k a are size is first;
}
