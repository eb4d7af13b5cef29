use Rattle.std.proofs.Common.{◌%◌, Bool, List, eqb, length, count_by, ap, ◌∙◌}
use Rattle.prim_bits.proofs.reductions.odd_set.Goals as goal

pub returns : goal.returns
returns c = c.odd_set.ensures (length c.args.a.now) c.number.ensures.below ∙ ap (λ (bits : List Bool). eqb (count_by (λ bit. bit) bits % 2) 1) c.number.ensures.bits
