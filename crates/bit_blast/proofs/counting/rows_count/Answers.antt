use Rattle.std.proofs.Common.{◌+◌, ◌*◌, ℕ, arith, ap, ◌∙◌}
use Rattle.bit_blast.proofs.Counts.{rows_more}
use Rattle.bit_blast.proofs.counting.rows_count.Goals as goal

pub loop-i-preserved : goal.loop-i-preserved
loop-i-preserved c = record {
  counted = ap (λ (k : ℕ). c.loop-i.count + (1 + 3 * k)) c.from.ensures ∙ rows_more c.args.width c.loop-i.i _ (omega arith) c.loop-i.invariant.counted;
  small = omega (arith, c.loop-i.invariant.small);
}
