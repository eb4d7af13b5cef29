use Rattle.std.proofs.Common.{◌≡◌}
use Rattle.std.specs.Prelude.{replicate}
use Rattle.type_ports.specs.declared.rows.Row.TheVariants.{Unknown}
use Rattle.type_ports.proofs.rows.no_rows.Given as goal

abbrev pub invariant-loop : goal.invariant-loop
invariant-loop l = l.rows.items ≡ replicate l.index Unknown
