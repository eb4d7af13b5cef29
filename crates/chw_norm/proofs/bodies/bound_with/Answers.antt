use Rattle.std.proofs.Common.{arith}
use Rattle.chw_norm.proofs.Deeper.{depth_changed}
use Rattle.chw_norm.proofs.bodies.bound_with.Goals as goal

pub returns : goal.returns
returns c = λ e h small.
    omega (arith, depth_changed c.args.path.now e c.args.new.now, h (omega arith))
