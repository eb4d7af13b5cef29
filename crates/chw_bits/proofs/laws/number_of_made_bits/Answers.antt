use Rattle.std.proofs.Common.{◌∙◌}
use Rattle.std.proofs.Math.Nat.{mod-eq_of_lt}
use Rattle.chw_bits.proofs.RoundTrips.{number_of-bits_of}
use Rattle.chw_bits.proofs.laws.number_of_made_bits.Goals as goal

pub returns : goal.returns
returns c = record { kept = number_of-bits_of; whole = λ width n below. number_of-bits_of width n ∙ mod-eq_of_lt below }
