-- none of the constructors so far has a field that is a circuit
use Rattle.std.proofs.Common.{length, reverse}
use Rattle.data_kinds.specs.Circuits.{SomeCircuit}
use Rattle.data_kinds.proofs.Searches.{NoneBefore}
use Rattle.data_kinds.proofs.circuits.has_circuit.Given as goal

abbrev pub invariant-loop-con : goal.invariant-loop-con
invariant-loop-con l = NoneBefore (SomeCircuit l.datas (length l.domains) (reverse l.params)) l.con-items l.con-index
