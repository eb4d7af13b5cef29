use Rattle.chw_bits.proofs.RoundTrips.{cut_low, cut_high}
use Rattle.chw_bits.proofs.laws.cuts_of_a_join.Goals as goal

pub returns : goal.returns
returns c = record { low = cut_low; high = cut_high }
