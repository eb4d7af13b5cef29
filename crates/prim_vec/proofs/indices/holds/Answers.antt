use Rattle.std.proofs.Common.{◌∙◌}
use Rattle.std.proofs.lemmas.Bool.{le-leb}
use Rattle.prim_vec.proofs.Powers.{held_past}
use Rattle.prim_vec.proofs.indices.holds.Goals as goal

pub returns-then-k-ge-BITS : goal.returns-then-k-ge-BITS
returns-then-k-ge-BITS c =
    le-leb 32 c.args.k c.if-k-ge-BITS.true ∙ held_past c.args.j c.args.k c.ranges.j.fits c.if-k-ge-BITS.true
