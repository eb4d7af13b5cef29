use Rattle.std.proofs.Common.{◌<◌, ◌≤◌, ◌^◌, sym, arith}
use Rattle.std.proofs.Math.Nat.{min-eq_left, pow-le-pow_right}
use Rattle.net_pieces.proofs.vectors.reached.Goals as goal

pub returns-else-k-lt32 : goal.returns-else-k-lt32
returns-else-k-lt32 c =
    let some : 0 < 2 = omega arith in
    let high : 2 ^ 32 ≤ 2 ^ c.args.k = pow-le-pow_right some c.if-k-lt32.false in
    let within : c.args.n ≤ 2 ^ c.args.k = omega (arith, high, c.ranges.n.fits) in
    sym (min-eq_left within)
