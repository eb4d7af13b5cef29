use Rattle.prim_vec.proofs.Powers.{all_held}
use Rattle.prim_vec.proofs.indices.held.Goals as goal

pub returns-then-k-ge-BITS : goal.returns-then-k-ge-BITS
returns-then-k-ge-BITS c = all_held c.args.n c.args.k c.ranges.n.fits c.if-k-ge-BITS.true
