use Rattle.bit_laws.proofs.Kept.{registers_keep}
use Rattle.bit_laws.proofs.laws.bits_of_registers.Goals as goal

pub returns : goal.returns
returns c = λ flat h w a domain initial sound no_loop fits has kept. registers_keep flat sound no_loop h w a domain initial fits has kept
