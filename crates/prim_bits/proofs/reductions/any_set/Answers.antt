use Rattle.std.proofs.Common.{Bool, List, length, ap, ◌∙◌}
use Rattle.std.specs.List.{list_any}
use Rattle.prim_bits.proofs.reductions.any_set.Goals as goal

pub returns : goal.returns
returns c = c.any_set.ensures (length c.args.a.now) c.number.ensures.below ∙ ap (λ (bits : List Bool). list_any (λ bit. bit) bits) c.number.ensures.bits
