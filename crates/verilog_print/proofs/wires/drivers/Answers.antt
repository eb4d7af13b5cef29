use Rattle.std.proofs.Common.{◌≡◌, ◌+◌, ◌-◌, ◌∙◌, arith}
use Rattle.verilog_print.proofs.Noted.{noted}
use Rattle.verilog_print.proofs.wires.drivers.Goals as goal

pub loop-place-preserved : goal.loop-place-preserved
loop-place-preserved c =
    let next : c.loop-place.place - 1 + 1 ≡ c.loop-place.place = omega arith in (
      c.note.ensures.len ∙ c.loop-place.invariant.0,
      λ k below. noted c.args.cells.now (c.loop-place.place - 1) k c.index-cells-place.result _ _ (omega arith) c.index-cells-place.is (rw c.driven.ensures at (c.note.ensures.noted k (omega arith))) (rw next (c.loop-place.invariant.1 k below)),
    )
