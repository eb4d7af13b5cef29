use Rattle.std.proofs.Common.{◌≡◌, ◌+◌, ◌-◌, ◌∙◌, arith}
use Rattle.verilog_judge.proofs.Showing.{shown_more}
use Rattle.verilog_judge.proofs.building.shown_wires.Goals as goal

pub loop-place-preserved : goal.loop-place-preserved
loop-place-preserved c =
    let next : c.loop-place.place - 1 + 1 ≡ c.loop-place.place = omega arith in (
      c.show.ensures.count ∙ c.loop-place.invariant.0,
      λ k below. shown_more c.args.drivers.now (c.loop-place.place - 1) k c.index-drivers-place.result _ _ _ (omega arith) c.index-drivers-place.is c.show.ensures.wires
          (omega (arith, below, c.loop-place.invariant.0))
          (rw next (c.loop-place.invariant.1 k below)),
    )
