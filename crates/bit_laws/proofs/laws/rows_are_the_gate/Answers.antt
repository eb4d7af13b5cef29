use Rattle.bit_laws.proofs.Rows.{rows_are_gate}
use Rattle.bit_laws.proofs.laws.rows_are_the_gate.Goals as goal

pub returns : goal.returns
returns c = rows_are_gate
