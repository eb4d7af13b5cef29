use Rattle.prim_vec.proofs.Powers.{wrapped_past, below_power}
use Rattle.prim_vec.proofs.indices.wrapped.Goals as goal

pub returns-then-k-ge-BITS : goal.returns-then-k-ge-BITS
returns-then-k-ge-BITS c = record {
  rest = wrapped_past c.args.j c.args.k c.ranges.j.fits c.if-k-ge-BITS.true;
  fits = below_power c.args.j c.args.k c.ranges.j.fits c.if-k-ge-BITS.true;
}
