use Rattle.net_means.proofs.CircuitBits.Signals.{operand_signal}
use Rattle.net_means.proofs.circuit_bits.laws.samples_have.Goals as goal

pub returns : goal.returns
returns c = λ o scope γ δ net path h x d a t sound scoped typed same has.
    let s = operand_signal c.facts.ensures o scope γ δ net path c.same_values.ensures c.fields_keep_same.ensures sound scoped x d a t h typed same has in
    record { width = s.width; wide = s.wide; bits = s.bits; carries = λ g. c.facts.ensures.shows.sample_shows s.shows g; bears = s.bears }
