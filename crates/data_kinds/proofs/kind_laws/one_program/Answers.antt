use Rattle.data_kinds.proofs.Same.{one_program}
use Rattle.data_kinds.proofs.kind_laws.one_program.Goals as goal

pub returns : goal.returns
returns c p q domains same defs top tidy tidy' = one_program p q domains same defs top tidy tidy'
