-- none of the fields so far is a circuit
use Rattle.std.proofs.Common.{length, reverse}
use Rattle.chw_types.specs.declared.kind.Kind.TheVariants.{Cir}
use Rattle.chw_types.specs.Kinds.{KindOf}
use Rattle.data_kinds.proofs.Searches.{NoneBefore}
use Rattle.data_kinds.proofs.circuits.has_circuit_field.Given as goal

abbrev pub invariant-loop-field : goal.invariant-loop-field
invariant-loop-field l = NoneBefore (λ t. KindOf l.datas (length l.domains) (reverse l.scope) t Cir) l.field-items l.field-index
