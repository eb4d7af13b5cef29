-- the rows so far
use Rattle.std.proofs.Common.{◌≡◌, ◌*◌, ◌≤◌}
use Rattle.bit_blast.specs.Counting.{rows_count}
use Rattle.bit_blast.proofs.counting.rows_count.Given as goal

abbrev pub invariant-loop-i : goal.invariant-loop-i
invariant-loop-i l = record { counted : l.count ≡ rows_count l.width l.i; small : l.count ≤ 385 * l.i }
